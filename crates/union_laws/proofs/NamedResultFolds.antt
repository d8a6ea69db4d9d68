-- What a fold makes of a moved result whose calls and forms are known, where each level makes the like of the moved level.
use Rattle.std.proofs.Common.{◌≡◌, ℕ, Bool, true, List, [], ◌∷◌, map, refl, ap, sym, ◌∙◌, subst}
use Rattle.std.specs.List.{list_all}
use Rattle.std.proofs.lemmas.Bool.{and_parts}
use Rattle.hume_model.specs.declared.core_tree.Forms.{Forms}
use Rattle.hume_model.specs.declared.core_tree.PatC.{PatC}
use Rattle.hume_model.specs.declared.core_tree.Res.{Res, fold-Res, roll-Res, map-Res, fold-roll-Res, ind-Res}
use Rattle.hume_model.specs.declared.core_tree.Res.TheOpen.{Res-F}
use Rattle.union_laws.specs.declared.moves.Moves.{Moves}
use Rattle.union_laws.specs.Moving.{moved_result, moved_result_layer}
use Rattle.union_laws.specs.inner.Names.{named_in, result_names, result_names_step}
use Rattle.union_laws.specs.inner.ResultCalls.{parts_known}

module _ (X : Type 0) (step other : Res-F X → X) (g : X → X) (moves : Moves) (bound : ℕ) (is_there : Forms → Bool)
    (alike : (y : Res-F X) → named_in bound is_there y ≡ true → other (moved_result_layer moves (map-Res X X g y)) ≡ g (step y)) where
  abbrev of : Res → X
  of = fold-Res X step

  abbrev other_of : Res → X
  other_of = fold-Res X other

  abbrev Same : Res → Type 0
  Same r = result_names bound is_there r ≡ true → other_of (moved_result moves r) ≡ g (of r)

  abbrev Part : Type 0
  Part = (r : Res) × Same r

  abbrev of_part : Part → Res
  of_part p = p.0

  abbrev arm_of : PatC × Part → PatC × Res
  arm_of arm = (arm.0, of_part arm.1)

  abbrev arm_moved : PatC × Res → PatC × Res
  arm_moved arm = (arm.0, moved_result moves arm.1)

  abbrev arm_names : PatC × Res → PatC × Bool
  arm_names arm = (arm.0, result_names bound is_there arm.1)

  abbrev arm_fold : (Res → X) → PatC × Res → PatC × X
  arm_fold fold arm = (arm.0, fold arm.1)

  abbrev arm_like : PatC × X → PatC × X
  arm_like arm = (arm.0, g arm.1)

  arms_same : (arms : List (PatC × Part)) → list_all (λ (arm : PatC × Bool). arm.1) (map arm_names (map arm_of arms)) ≡ true
      → map (arm_fold other_of) (map arm_moved (map arm_of arms)) ≡ map arm_like (map (arm_fold of) (map arm_of arms))
  arms_same [] known = refl
  arms_same (arm ∷ arms) known =
      let both = and_parts (result_names bound is_there arm.1.0) (list_all (λ (way : PatC × Bool). way.1) (map arm_names (map arm_of arms))) known in
      λ i. (arm.0, arm.1.1 both.0 i) ∷ arms_same arms both.1 i

  abbrev layer : Res-F Part → Res-F Res
  layer y = map-Res Part Res of_part y

  abbrev new_layer : Res-F Part → Res-F Res
  new_layer y = moved_result_layer moves (map-Res Res Res (moved_result moves) (layer y))

  step_same : (y : Res-F Part) → parts_known (map-Res Res Bool (result_names bound is_there) (layer y)) ≡ true
      → map-Res Res X other_of (new_layer y) ≡ moved_result_layer moves (map-Res X X g (map-Res Res X of (layer y)))
  step_same (Res-F.Outs outs) known = refl
  step_same (Res-F.If t a b) known =
      let both = and_parts (result_names bound is_there a.0) (result_names bound is_there b.0) known in
      λ i. moved_result_layer moves (Res-F.If t (a.1 both.0 i) (b.1 both.1 i))
  step_same (Res-F.Case e forms arms) known = ap (λ ways. moved_result_layer moves (Res-F.Case e forms ways)) (arms_same arms known)
  step_same (Res-F.Let e b) known = λ i. moved_result_layer moves (Res-F.Let e (b.1 known i))
  step_same (Res-F.Raise x e) known = refl

  exprs_known : (y : Res-F Part) → named_in bound is_there (map-Res Res Bool (result_names bound is_there) (layer y)) ≡ true → named_in bound is_there (map-Res Res X of (layer y)) ≡ true
  exprs_known (Res-F.Outs outs) known = known
  exprs_known (Res-F.If t a b) known = known
  exprs_known (Res-F.Case e forms arms) known = known
  exprs_known (Res-F.Let e b) known = known
  exprs_known (Res-F.Raise x e) known = known

  layer_same : (y : Res-F Part) → Same (roll-Res (layer y))
  layer_same y calls =
      let both = and_parts (named_in bound is_there (map-Res Res Bool (result_names bound is_there) (layer y))) (parts_known (map-Res Res Bool (result_names bound is_there) (layer y)))
      (sym (fold-roll-Res Bool (result_names_step bound is_there) (layer y)) ∙ calls) in
      ap other_of (fold-roll-Res Res (λ x. roll-Res (moved_result_layer moves x)) (layer y))
      ∙ fold-roll-Res X other (new_layer y)
      ∙ ap other (step_same y both.1)
      ∙ alike (map-Res Res X of (layer y)) (exprs_known y both.0)
      ∙ ap g (sym (fold-roll-Res X step (layer y)))

  pub named_result_same : (r : Res) → Same r
  named_result_same = ind-Res Same (λ x y is. subst (λ z. Same (roll-Res z)) is (layer_same y))
