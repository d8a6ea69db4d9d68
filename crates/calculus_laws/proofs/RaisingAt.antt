-- A function may raise what its one equation may raise.
use Rattle.std.proofs.Common.{◌≡◌, ℕ, zero, suc, ◌<◌, ◌==◌, ◌||◌, Bool, true, false, List, [], ◌∷◌, map, length, Some, None, slice_get, refl, ap, sym, ◌∙◌, subst, arith, if◌then◌else◌}
use Rattle.std.specs.List.{list_all}
use Rattle.std.proofs.lemmas.Bool.{and_parts, eqb-false, eqb-true, ltb-true}
use Rattle.std.proofs.lemmas.Option.{slice_get_within}
use Rattle.hume_base.specs.declared.types.Types.{Types}
use Rattle.hume_model.specs.declared.core_tree.PatC.{PatC}
use Rattle.hume_model.specs.declared.core_tree.Expr.{Expr, fold-roll-Expr, ind-Expr, map-Expr, roll-Expr}
use Rattle.hume_model.specs.declared.core_tree.Expr.TheOpen.{Expr-F}
use Rattle.hume_model.specs.declared.core_tree.EqC.{EqC}
use Rattle.hume_model.specs.declared.core_tree.FunC.{FunC}
use Rattle.hume_model.specs.declared.core_tree.Core.{Core}
use Rattle.hume_model.specs.Calls.{CallsGoDown, all_true, calls_below, calls_step, equation_calls}
use Rattle.hume_model.specs.Raising.{Seen, function_raises, raises_below, raises_step, raises_with, seen, seen_with, some_raise}

module _ (types : Types) (exn bound : ℕ) (ra rb : ℕ → Bool) (same : (f : ℕ) → f < bound → ra f ≡ rb f) where
  abbrev Agrees : Expr → Type 0
  Agrees e = calls_below bound e ≡ true → seen_with types ra exn e ≡ seen_with types rb exn e

  abbrev Part : Type 0
  Part = (e : Expr) × Agrees e

  abbrev of_part : Part → Expr
  of_part p = p.0

  parts_agree : (ps : List Part) → all_true (map (calls_below bound) (map of_part ps)) ≡ true
      → map (seen_with types ra exn) (map of_part ps) ≡ map (seen_with types rb exn) (map of_part ps)
  parts_agree [] all = refl
  parts_agree (p ∷ ps) all = (let hs = and_parts _ _ all in λ i. p.1 hs.0 i ∷ parts_agree ps hs.1 i)

  abbrev arm_of : PatC × Part → PatC × Expr
  arm_of arm = (arm.0, of_part arm.1)

  abbrev arm_calls : PatC × Expr → PatC × Bool
  arm_calls arm = (arm.0, calls_below bound arm.1)

  abbrev arm_seen : (ℕ → Bool) → PatC × Expr → PatC × Seen
  arm_seen r arm = (arm.0, seen_with types r exn arm.1)

  arms_agree : (arms : List (PatC × Part)) → list_all (λ (arm : PatC × Bool). arm.1) (map arm_calls (map arm_of arms)) ≡ true
      → map (arm_seen ra) (map arm_of arms) ≡ map (arm_seen rb) (map arm_of arms)
  arms_agree [] all = refl
  arms_agree (arm ∷ arms) all = (let hs = and_parts _ _ all in λ i. (arm.0, arm.1.1 hs.0 i) ∷ arms_agree arms hs.1 i)

  abbrev layer : Expr-F Part → Expr-F Expr
  layer y = map-Expr Part Expr of_part y

  abbrev level : (ℕ → Bool) → Expr-F Seen → Seen
  level r = raises_step types r exn

  step_agrees : (y : Expr-F Part) → calls_step bound (map-Expr Expr Bool (calls_below bound) (layer y)) ≡ true
      → level ra (map-Expr Expr Seen (seen_with types ra exn) (layer y)) ≡ level rb (map-Expr Expr Seen (seen_with types rb exn) (layer y))
  step_agrees (Expr-F.Word w) h = refl
  step_agrees (Expr-F.Var n) h = refl
  step_agrees (Expr-F.Con c ps) h = ap (λ xs. level rb (Expr-F.Con c xs)) (parts_agree ps h)
  step_agrees (Expr-F.Tuple ps) h = ap (λ xs. level rb (Expr-F.Tuple xs)) (parts_agree ps h)
  step_agrees (Expr-F.Vect ps) h = ap (λ xs. level rb (Expr-F.Vect xs)) (parts_agree ps h)
  step_agrees (Expr-F.Prim op ty ps) h = ap (λ xs. level rb (Expr-F.Prim op ty xs)) (parts_agree ps h)
  step_agrees (Expr-F.Index n v k) h = (let hs = and_parts _ _ h in λ i. level rb (Expr-F.Index n (v.1 hs.0 i) (k.1 hs.1 i)))
  step_agrees (Expr-F.Update n v k e) h =
      let hs = and_parts _ _ h in
      let ks = and_parts _ _ hs.1 in
      λ i. level rb (Expr-F.Update n (v.1 hs.0 i) (k.1 ks.0 i) (e.1 ks.1 i))
  step_agrees (Expr-F.If t a b) h =
      let hs = and_parts _ _ h in
      let ks = and_parts _ _ hs.1 in
      λ i. level rb (Expr-F.If (t.1 hs.0 i) (a.1 ks.0 i) (b.1 ks.1 i))
  step_agrees (Expr-F.Case e forms arms) h = (let hs = and_parts _ _ h in λ i. level rb (Expr-F.Case (e.1 hs.0 i) forms (arms_agree arms hs.1 i)))
  step_agrees (Expr-F.Let a b) h = (let hs = and_parts _ _ h in λ i. level rb (Expr-F.Let (a.1 hs.0 i) (b.1 hs.1 i)))
  step_agrees (Expr-F.Call f ps) h = (let hs = and_parts _ _ h in λ i. seen (some_raise (parts_agree ps hs.1 i) || same f (ltb-true f bound hs.0) i))
  step_agrees (Expr-F.Raise x None) h = refl
  step_agrees (Expr-F.Raise x (Some p)) h = λ i. level rb (Expr-F.Raise x (Some (p.1 h i)))

  layer_agrees : (y : Expr-F Part) → Agrees (roll-Expr (layer y))
  layer_agrees y h =
      fold-roll-Expr Seen (level ra) (layer y) ∙ step_agrees y (sym (fold-roll-Expr Bool (calls_step bound) (layer y)) ∙ h)
      ∙ sym (fold-roll-Expr Seen (level rb) (layer y))

  seen_agrees : (e : Expr) → Agrees e
  seen_agrees = ind-Expr Agrees (λ x y is. subst (λ z. Agrees (roll-Expr z)) is (layer_agrees y))

module _ (core : Core) (exn : ℕ) where
  raises_at : (n f : ℕ) → f < n → raises_below core n exn f ≡ function_raises core.types (raises_with core.types (raises_below core f exn) exn) exn (slice_get core.funs f)
  unfolding raises_below
  raises_at zero f below = absurd (omega arith)
  raises_at (suc n) f below = by (f == n) refl (raises_at n f)
    where
      by : (b : Bool) → (f == n) ≡ b → (f < n → raises_below core n exn f ≡ function_raises core.types (raises_with core.types (raises_below core f exn) exn) exn (slice_get core.funs f))
          → (if b then function_raises core.types (raises_with core.types (raises_below core n exn) exn) exn (slice_get core.funs n) else raises_below core n exn f)
          ≡ function_raises core.types (raises_with core.types (raises_below core f exn) exn) exn (slice_get core.funs f)
      by true is rest =
          let same : n ≡ f = sym (eqb-true f n is) in
          ap (λ k. function_raises core.types (raises_with core.types (raises_below core k exn) exn) exn (slice_get core.funs k)) same
      by false is rest = (let differ = eqb-false f n is in rest (omega (arith, differ, below)))

  or_left : (a b c : Bool) → a ≡ true → ((a || b) || c) ≡ true
  or_left true b c is = refl
  or_left false b c is = cc

  -- where the body of the one equation of a function may raise it, the function may
  pub function_may : CallsGoDown core → (f : ℕ) (function : FunC) (equation : EqC) → slice_get core.funs f ≡ Some function → function.equations ≡ equation ∷ []
      → raises_with core.types (raises_below core (length core.funs) exn) exn equation.body ≡ true → raises_below core (length core.funs) exn f ≡ true
  function_may down f function equation found only raises =
      let within = slice_get_within core.funs f function found in
      let calls = and_parts (equation_calls f equation) true (ap (list_all (equation_calls f)) (sym only) ∙ down f function found) in
      let agree : seen_with core.types (raises_below core f exn) exn equation.body ≡ seen_with core.types (raises_below core (length core.funs) exn) exn equation.body =
      seen_agrees core.types exn f (raises_below core f exn) (raises_below core (length core.funs) exn)
      (λ g less. raises_at f g less ∙ sym (raises_at (length core.funs) g (omega (arith, less, within)))) equation.body calls.0 in
      raises_at (length core.funs) f within
      ∙ ap (function_raises core.types (raises_with core.types (raises_below core f exn) exn) exn) found
      ∙ ap (λ es. function_raises core.types (raises_with core.types (raises_below core f exn) exn) exn (Some (record function { equations = es }))) only
      ∙ or_left (raises_with core.types (raises_below core f exn) exn equation.body) false _ (ap (λ (s : Seen). s.raises) agree ∙ raises)
