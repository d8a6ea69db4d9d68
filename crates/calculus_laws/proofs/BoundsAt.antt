-- The bound of a call of a function with one equation.
use Rattle.std.proofs.Common.{◌≡◌, ℕ, zero, suc, ◌+◌, ◌<◌, ◌==◌, ◌&&◌, Bool, true, false, List, [], ◌∷◌, map, length, Option, Some, None, slice_get, refl, ap, sym, ◌∙◌, subst, arith, if◌then◌else◌}
use Rattle.std.specs.List.{list_all}
use Rattle.std.proofs.lemmas.Bool.{and_parts, eqb-false, eqb-true, ltb-true}
use Rattle.std.proofs.lemmas.Option.{slice_get_within}
use Rattle.hume_model.specs.declared.core_tree.PatC.{PatC}
use Rattle.hume_model.specs.declared.core_tree.Expr.{Expr, fold-roll-Expr, ind-Expr, map-Expr, roll-Expr}
use Rattle.hume_model.specs.declared.core_tree.Expr.TheOpen.{Expr-F}
use Rattle.hume_model.specs.declared.core_tree.EqC.{EqC}
use Rattle.hume_model.specs.declared.core_tree.FunC.{FunC}
use Rattle.hume_model.specs.declared.core_tree.Core.{Core}
use Rattle.hume_model.specs.Calls.{CallsGoDown, all_true, calls_below, calls_step, equation_calls}
use Rattle.box_costs.specs.declared.cost.Cost.{Cost}
use Rattle.box_costs.specs.Costs.{above, both, in_order, instructions, one_way}
use Rattle.box_costs.specs.Bounds.{bound_below, bound_step, bound_with, equation_way, expression_bound, function_bound}

module _ (bound : ℕ) (ca cb : ℕ → Cost) (same : (f : ℕ) → f < bound → ca f ≡ cb f) where
  abbrev Agrees : Expr → Type 0
  Agrees e = calls_below bound e ≡ true → bound_with ca e ≡ bound_with cb e

  abbrev Part : Type 0
  Part = (e : Expr) × Agrees e

  abbrev of_part : Part → Expr
  of_part p = p.0

  parts_agree : (ps : List Part) → all_true (map (calls_below bound) (map of_part ps)) ≡ true
      → map (bound_with ca) (map of_part ps) ≡ map (bound_with cb) (map of_part ps)
  parts_agree [] all = refl
  parts_agree (p ∷ ps) all = (let hs = and_parts _ _ all in λ i. p.1 hs.0 i ∷ parts_agree ps hs.1 i)

  abbrev arm_of : PatC × Part → PatC × Expr
  arm_of arm = (arm.0, of_part arm.1)

  abbrev arm_calls : PatC × Expr → PatC × Bool
  arm_calls arm = (arm.0, calls_below bound arm.1)

  abbrev arm_bound : (ℕ → Cost) → PatC × Expr → PatC × Cost
  arm_bound called arm = (arm.0, bound_with called arm.1)

  arms_agree : (arms : List (PatC × Part)) → list_all (λ (arm : PatC × Bool). arm.1) (map arm_calls (map arm_of arms)) ≡ true
      → map (arm_bound ca) (map arm_of arms) ≡ map (arm_bound cb) (map arm_of arms)
  arms_agree [] all = refl
  arms_agree (arm ∷ arms) all = (let hs = and_parts _ _ all in λ i. (arm.0, arm.1.1 hs.0 i) ∷ arms_agree arms hs.1 i)

  abbrev layer : Expr-F Part → Expr-F Expr
  layer y = map-Expr Part Expr of_part y

  abbrev level : (ℕ → Cost) → Expr-F Cost → Cost
  level called = bound_step called

  step_agrees : (y : Expr-F Part) → calls_step bound (map-Expr Expr Bool (calls_below bound) (layer y)) ≡ true
      → level ca (map-Expr Expr Cost (bound_with ca) (layer y)) ≡ level cb (map-Expr Expr Cost (bound_with cb) (layer y))
  step_agrees (Expr-F.Word w) h = refl
  step_agrees (Expr-F.Var n) h = refl
  step_agrees (Expr-F.Con c ps) h = ap (λ xs. level cb (Expr-F.Con c xs)) (parts_agree ps h)
  step_agrees (Expr-F.Tuple ps) h = ap (λ xs. level cb (Expr-F.Tuple xs)) (parts_agree ps h)
  step_agrees (Expr-F.Vect ps) h = ap (λ xs. level cb (Expr-F.Vect xs)) (parts_agree ps h)
  step_agrees (Expr-F.Prim op ty ps) h = ap (λ xs. level cb (Expr-F.Prim op ty xs)) (parts_agree ps h)
  step_agrees (Expr-F.Index n v k) h = (let hs = and_parts _ _ h in λ i. level cb (Expr-F.Index n (v.1 hs.0 i) (k.1 hs.1 i)))
  step_agrees (Expr-F.Update n v k e) h =
      let hs = and_parts _ _ h in
      let ks = and_parts _ _ hs.1 in
      λ i. level cb (Expr-F.Update n (v.1 hs.0 i) (k.1 ks.0 i) (e.1 ks.1 i))
  step_agrees (Expr-F.If t a b) h =
      let hs = and_parts _ _ h in
      let ks = and_parts _ _ hs.1 in
      λ i. level cb (Expr-F.If (t.1 hs.0 i) (a.1 ks.0 i) (b.1 ks.1 i))
  step_agrees (Expr-F.Case e forms arms) h = (let hs = and_parts _ _ h in λ i. level cb (Expr-F.Case (e.1 hs.0 i) forms (arms_agree arms hs.1 i)))
  step_agrees (Expr-F.Let a b) h = (let hs = and_parts _ _ h in λ i. level cb (Expr-F.Let (a.1 hs.0 i) (b.1 hs.1 i)))
  step_agrees (Expr-F.Call f ps) h =
      let hs = and_parts _ _ h in
      λ i. both (in_order (parts_agree ps hs.1 i)) (above (length (parts_agree ps hs.1 i) + 2) (both (instructions 1) (same f (ltb-true f bound hs.0) i)))
  step_agrees (Expr-F.Raise x None) h = refl
  step_agrees (Expr-F.Raise x (Some p)) h = λ i. level cb (Expr-F.Raise x (Some (p.1 h i)))

  layer_agrees : (y : Expr-F Part) → Agrees (roll-Expr (layer y))
  layer_agrees y h =
      fold-roll-Expr Cost (level ca) (layer y) ∙ step_agrees y (sym (fold-roll-Expr Bool (calls_step bound) (layer y)) ∙ h)
      ∙ sym (fold-roll-Expr Cost (level cb) (layer y))

  bounds_agree : (e : Expr) → Agrees e
  bounds_agree = ind-Expr Agrees (λ x y is. subst (λ z. Agrees (roll-Expr z)) is (layer_agrees y))

module _ (core : Core) where
  bound_at : (n f : ℕ) → f < n → bound_below core n f ≡ function_bound (bound_with (bound_below core f)) (slice_get core.funs f)
  unfolding bound_below
  bound_at zero f below = absurd (omega arith)
  bound_at (suc n) f below = by (f == n) refl (bound_at n f)
    where
      by : (b : Bool) → (f == n) ≡ b → (f < n → bound_below core n f ≡ function_bound (bound_with (bound_below core f)) (slice_get core.funs f))
          → (if b then function_bound (bound_with (bound_below core n)) (slice_get core.funs n) else bound_below core n f)
          ≡ function_bound (bound_with (bound_below core f)) (slice_get core.funs f)
      by true is rest =
          let same : n ≡ f = sym (eqb-true f n is) in
          ap (λ k. function_bound (bound_with (bound_below core k)) (slice_get core.funs k)) same
      by false is rest = (let differ = eqb-false f n is in rest (omega (arith, differ, below)))

  -- the bound of a function with one equation is that of the equation
  pub only_bound : CallsGoDown core → (f : ℕ) (function : FunC) (equation : EqC) → slice_get core.funs f ≡ Some function → function.equations ≡ equation ∷ []
      → bound_below core (length core.funs) f ≡ one_way (equation_way (expression_bound core) equation ∷ [])
  only_bound down f function equation found only =
      let within = slice_get_within core.funs f function found in
      let calls = and_parts (equation_calls f equation) true (ap (list_all (equation_calls f)) (sym only) ∙ down f function found) in
      let agree : bound_with (bound_below core f) equation.body ≡ expression_bound core equation.body =
      bounds_agree f (bound_below core f) (bound_below core (length core.funs))
      (λ g less. bound_at f g less ∙ sym (bound_at (length core.funs) g (omega (arith, less, within)))) equation.body calls.0 in
      bound_at (length core.funs) f within
      ∙ ap (function_bound (bound_with (bound_below core f))) found
      ∙ ap (λ es. function_bound (bound_with (bound_below core f)) (Some (record function { equations = es }))) only
      ∙ ap (λ c. one_way (equation_way (λ e. c) equation ∷ [])) agree
