-- What a fold makes of a moved expression whose calls and forms are known, where each level makes the like of the moved level.
use Rattle.std.proofs.Common.{◌≡◌, ℕ, ◌&&◌, nat_lt, Bool, true, List, [], ◌∷◌, map, Some, None, refl, ap, sym, ◌∙◌, subst}
use Rattle.std.specs.Bool.{⊤}
use Rattle.std.specs.List.{list_all}
use Rattle.std.proofs.lemmas.Bool.{and_parts}
use Rattle.hume_model.specs.declared.core_tree.PatC.{PatC}
use Rattle.hume_model.specs.declared.core_tree.Expr.{Expr, fold-Expr, roll-Expr, map-Expr, fold-roll-Expr, ind-Expr}
use Rattle.hume_model.specs.declared.core_tree.Expr.TheOpen.{Expr-F}
use Rattle.hume_model.specs.declared.core_tree.Forms.{Forms}
use Rattle.hume_model.specs.Calls.{all_true}
use Rattle.union_laws.specs.inner.Names.{names_below, names_step}
use Rattle.union_laws.specs.declared.moves.Moves.{Moves}
use Rattle.union_laws.specs.Moving.{moved, moved_layer}

-- a call is of a function of a number below the bound, and the forms of a `case` are there
abbrev pub IsKnown : {X : Type 0} → ℕ → (Forms → Bool) → Expr-F X → Type 0
IsKnown bound is_there (Expr-F.Call function parts) = nat_lt function bound ≡ true
IsKnown bound is_there (Expr-F.Case part forms arms) = is_there forms ≡ true
IsKnown bound is_there layer = ⊤

module _ (X : Type 0) (step other : Expr-F X → X) (g : X → X) (moves : Moves) (bound : ℕ) (is_there : Forms → Bool)
    (alike : (y : Expr-F X) → IsKnown bound is_there y → other (moved_layer moves (map-Expr X X g y)) ≡ g (step y)) where
  abbrev of : Expr → X
  of = fold-Expr X step

  abbrev other_of : Expr → X
  other_of = fold-Expr X other

  abbrev Same : Expr → Type 0
  Same e = names_below bound is_there e ≡ true → other_of (moved moves e) ≡ g (of e)

  abbrev Part : Type 0
  Part = (e : Expr) × Same e

  abbrev of_part : Part → Expr
  of_part p = p.0

  parts_same : (ps : List Part) → all_true (map (names_below bound is_there) (map of_part ps)) ≡ true
      → map other_of (map (moved moves) (map of_part ps)) ≡ map g (map of (map of_part ps))
  parts_same [] known = refl
  parts_same (p ∷ ps) known =
      let both = and_parts (names_below bound is_there p.0) (all_true (map (names_below bound is_there) (map of_part ps))) known in
      λ i. p.1 both.0 i ∷ parts_same ps both.1 i

  abbrev arm_of : PatC × Part → PatC × Expr
  arm_of arm = (arm.0, of_part arm.1)

  abbrev arm_moved : PatC × Expr → PatC × Expr
  arm_moved arm = (arm.0, moved moves arm.1)

  abbrev arm_names : PatC × Expr → PatC × Bool
  arm_names arm = (arm.0, names_below bound is_there arm.1)

  abbrev arm_fold : (Expr → X) → PatC × Expr → PatC × X
  arm_fold fold arm = (arm.0, fold arm.1)

  abbrev arm_like : PatC × X → PatC × X
  arm_like arm = (arm.0, g arm.1)

  arms_same : (arms : List (PatC × Part)) → list_all (λ (arm : PatC × Bool). arm.1) (map arm_names (map arm_of arms)) ≡ true
      → map (arm_fold other_of) (map arm_moved (map arm_of arms)) ≡ map arm_like (map (arm_fold of) (map arm_of arms))
  arms_same [] known = refl
  arms_same (arm ∷ arms) known =
      let both = and_parts (names_below bound is_there arm.1.0) (list_all (λ (way : PatC × Bool). way.1) (map arm_names (map arm_of arms))) known in
      λ i. (arm.0, arm.1.1 both.0 i) ∷ arms_same arms both.1 i

  abbrev layer : Expr-F Part → Expr-F Expr
  layer y = map-Expr Part Expr of_part y

  abbrev new_layer : Expr-F Part → Expr-F Expr
  new_layer y = moved_layer moves (map-Expr Expr Expr (moved moves) (layer y))

  abbrev Known : Expr-F Part → Type 0
  Known y = names_step bound is_there (map-Expr Expr Bool (names_below bound is_there) (layer y)) ≡ true

  step_same : (y : Expr-F Part) → Known y
      → map-Expr Expr X other_of (new_layer y) ≡ moved_layer moves (map-Expr X X g (map-Expr Expr X of (layer y)))
  step_same (Expr-F.Word w) known = refl
  step_same (Expr-F.Var n) known = refl
  step_same (Expr-F.Con c ps) known = ap (λ xs. Expr-F.Con c xs) (parts_same ps known)
  step_same (Expr-F.Tuple ps) known = ap (λ xs. Expr-F.Tuple xs) (parts_same ps known)
  step_same (Expr-F.Vect ps) known = ap (λ xs. Expr-F.Vect xs) (parts_same ps known)
  step_same (Expr-F.Prim op ty ps) known = ap (λ xs. moved_layer moves (Expr-F.Prim op ty xs)) (parts_same ps known)
  step_same (Expr-F.Index n v k) known =
      let both = and_parts (names_below bound is_there v.0) (names_below bound is_there k.0) known in
      λ i. Expr-F.Index n (v.1 both.0 i) (k.1 both.1 i)
  step_same (Expr-F.Update n v k e) known =
      let both = and_parts (names_below bound is_there v.0) (names_below bound is_there k.0 && names_below bound is_there e.0) known in
      let rest = and_parts (names_below bound is_there k.0) (names_below bound is_there e.0) both.1 in
      λ i. Expr-F.Update n (v.1 both.0 i) (k.1 rest.0 i) (e.1 rest.1 i)
  step_same (Expr-F.If t a b) known =
      let both = and_parts (names_below bound is_there t.0) (names_below bound is_there a.0 && names_below bound is_there b.0) known in
      let rest = and_parts (names_below bound is_there a.0) (names_below bound is_there b.0) both.1 in
      λ i. Expr-F.If (t.1 both.0 i) (a.1 rest.0 i) (b.1 rest.1 i)
  step_same (Expr-F.Case e forms arms) known =
      let all = and_parts (is_there forms) (names_below bound is_there e.0 && list_all (λ (way : PatC × Bool). way.1) (map arm_names (map arm_of arms))) known in
      let both = and_parts (names_below bound is_there e.0) (list_all (λ (way : PatC × Bool). way.1) (map arm_names (map arm_of arms))) all.1 in
      λ i. moved_layer moves (Expr-F.Case (e.1 both.0 i) forms (arms_same arms both.1 i))
  step_same (Expr-F.Let a b) known =
      let both = and_parts (names_below bound is_there a.0) (names_below bound is_there b.0) known in
      λ i. Expr-F.Let (a.1 both.0 i) (b.1 both.1 i)
  step_same (Expr-F.Call f ps) known =
      let both = and_parts (nat_lt f bound) (all_true (map (names_below bound is_there) (map of_part ps))) known in
      ap (λ xs. moved_layer moves (Expr-F.Call f xs)) (parts_same ps both.1)
  step_same (Expr-F.Raise x None) known = refl
  step_same (Expr-F.Raise x (Some p)) known = λ i. moved_layer moves (Expr-F.Raise x (Some (p.1 known i)))

  layer_known : (y : Expr-F Part) → Known y → IsKnown bound is_there (map-Expr Expr X of (layer y))
  layer_known (Expr-F.Word w) known = tt
  layer_known (Expr-F.Var n) known = tt
  layer_known (Expr-F.Con c ps) known = tt
  layer_known (Expr-F.Tuple ps) known = tt
  layer_known (Expr-F.Vect ps) known = tt
  layer_known (Expr-F.Prim op ty ps) known = tt
  layer_known (Expr-F.Index n v k) known = tt
  layer_known (Expr-F.Update n v k e) known = tt
  layer_known (Expr-F.If t a b) known = tt
  layer_known (Expr-F.Case e forms arms) known =
      (and_parts (is_there forms) (names_below bound is_there e.0 && list_all (λ (way : PatC × Bool). way.1) (map arm_names (map arm_of arms))) known).0
  layer_known (Expr-F.Let a b) known = tt
  layer_known (Expr-F.Call f ps) known = (and_parts (nat_lt f bound) (all_true (map (names_below bound is_there) (map of_part ps))) known).0
  layer_known (Expr-F.Raise x part) known = tt

  layer_same : (y : Expr-F Part) → Same (roll-Expr (layer y))
  layer_same y calls =
      let known : Known y = sym (fold-roll-Expr Bool (names_step bound is_there) (layer y)) ∙ calls in
      ap other_of (fold-roll-Expr Expr (λ x. roll-Expr (moved_layer moves x)) (layer y))
      ∙ fold-roll-Expr X other (new_layer y)
      ∙ ap other (step_same y known)
      ∙ alike (map-Expr Expr X of (layer y)) (layer_known y known)
      ∙ ap g (sym (fold-roll-Expr X step (layer y)))

  pub named_same : (e : Expr) → Same e
  named_same = ind-Expr Same (λ x y is. subst (λ z. Same (roll-Expr z)) is (layer_same y))
