-- What doesn't depend on the numbers of variables is the same when these are others.
use Rattle.std.proofs.Common.{◌≡◌, ℕ, List, [], ◌∷◌, map, Some, None, refl, ap, sym, ◌∙◌, subst}
use Rattle.hume_model.specs.declared.core_tree.PatC.{PatC}
use Rattle.hume_model.specs.declared.core_tree.Expr.{Expr, fold-Expr, roll-Expr, map-Expr, fold-roll-Expr, ind-Expr}
use Rattle.hume_model.specs.declared.core_tree.Expr.TheOpen.{Expr-F}
use Rattle.calculus_laws.specs.Unfolding.{renumber_layer, renumbered}

module _ (X : Type 0) (step : Expr-F X → X) (alike : (n m : ℕ) → step (Expr-F.Var n) ≡ step (Expr-F.Var m)) (numbers : ℕ → ℕ) where
  abbrev of : Expr → X
  of = fold-Expr X step

  abbrev Same : Expr → Type 0
  Same e = of (renumbered numbers e) ≡ of e

  abbrev Part : Type 0
  Part = (e : Expr) × Same e

  abbrev of_part : Part → Expr
  of_part p = p.0

  parts_same : (ps : List Part) → map of (map (renumbered numbers) (map of_part ps)) ≡ map of (map of_part ps)
  parts_same [] = refl
  parts_same (p ∷ ps) = λ i. p.1 i ∷ parts_same ps i

  abbrev arm_of : PatC × Part → PatC × Expr
  arm_of arm = (arm.0, of_part arm.1)

  abbrev arm_new : PatC × Expr → PatC × Expr
  arm_new arm = (arm.0, renumbered numbers arm.1)

  abbrev arm_fold : PatC × Expr → PatC × X
  arm_fold arm = (arm.0, of arm.1)

  arms_same : (arms : List (PatC × Part)) → map arm_fold (map arm_new (map arm_of arms)) ≡ map arm_fold (map arm_of arms)
  arms_same [] = refl
  arms_same (arm ∷ arms) = λ i. (arm.0, arm.1.1 i) ∷ arms_same arms i

  abbrev layer : Expr-F Part → Expr-F Expr
  layer y = map-Expr Part Expr of_part y

  abbrev new_layer : Expr-F Part → Expr-F Expr
  new_layer y = renumber_layer numbers (map-Expr Expr Expr (renumbered numbers) (layer y))

  step_same : (y : Expr-F Part) → step (map-Expr Expr X of (new_layer y)) ≡ step (map-Expr Expr X of (layer y))
  step_same (Expr-F.Word w) = refl
  step_same (Expr-F.Var n) = alike (numbers n) n
  step_same (Expr-F.Con c ps) = ap (λ xs. step (Expr-F.Con c xs)) (parts_same ps)
  step_same (Expr-F.Tuple ps) = ap (λ xs. step (Expr-F.Tuple xs)) (parts_same ps)
  step_same (Expr-F.Vect ps) = ap (λ xs. step (Expr-F.Vect xs)) (parts_same ps)
  step_same (Expr-F.Prim op ty ps) = ap (λ xs. step (Expr-F.Prim op ty xs)) (parts_same ps)
  step_same (Expr-F.Index n v k) = λ i. step (Expr-F.Index n (v.1 i) (k.1 i))
  step_same (Expr-F.Update n v k e) = λ i. step (Expr-F.Update n (v.1 i) (k.1 i) (e.1 i))
  step_same (Expr-F.If t a b) = λ i. step (Expr-F.If (t.1 i) (a.1 i) (b.1 i))
  step_same (Expr-F.Case e forms arms) = λ i. step (Expr-F.Case (e.1 i) forms (arms_same arms i))
  step_same (Expr-F.Let a b) = λ i. step (Expr-F.Let (a.1 i) (b.1 i))
  step_same (Expr-F.Call f ps) = ap (λ xs. step (Expr-F.Call f xs)) (parts_same ps)
  step_same (Expr-F.Raise x None) = refl
  step_same (Expr-F.Raise x (Some p)) = λ i. step (Expr-F.Raise x (Some (p.1 i)))

  layer_same : (y : Expr-F Part) → Same (roll-Expr (layer y))
  layer_same y =
      ap of (fold-roll-Expr Expr (λ x. roll-Expr (renumber_layer numbers x)) (layer y))
      ∙ fold-roll-Expr X step (new_layer y) ∙ step_same y ∙ sym (fold-roll-Expr X step (layer y))

  pub renumbered_same : (e : Expr) → Same e
  renumbered_same = ind-Expr Same (λ x y is. subst (λ z. Same (roll-Expr z)) is (layer_same y))
