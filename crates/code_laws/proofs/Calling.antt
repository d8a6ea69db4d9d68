-- Calls, by the numbers of functions, and the whole.
use Rattle.std.proofs.Common.{◌≡◌, ℕ, zero, suc, ◌+◌, ◌<◌, ◌≤◌, nat_lt, Bool, true, false, if◌then◌else◌, List, [], ◌∷◌, ◌++◌, length, Option, Some, None, slice_get, refl, ap, sym, ◌∙◌, subst, arith, inl, inr}
use Rattle.std.proofs.lemmas.Bool.{cases_eq, eq-eqb, ne_eqb, ltb-true, lt-ltb}
use Rattle.std.proofs.lemmas.List.{length-append}
use Rattle.std.proofs.lemmas.Option.{slice_get_within}
use Rattle.hume_base.specs.declared.types.Ty.{Ty}
use Rattle.hume_base.specs.declared.types.Value.{Value}
use Rattle.hume_model.specs.declared.core_tree.Expr.{Expr}
use Rattle.hume_model.specs.declared.core_tree.EqC.{EqC}
use Rattle.hume_model.specs.declared.core_tree.FunC.{FunC}
use Rattle.hume_model.specs.declared.core_tree.Core.{Core}
use Rattle.hume_model.specs.declared.exceptions.TheConstants.{NO_CASE}
use Rattle.hume_model.specs.declared.outcome.Outcome.{Outcome}
use Rattle.hume_model.specs.Patterns.{matches_all}
use Rattle.hume_model.specs.Meaning.{Calls, call_below}
use Rattle.hume_model.specs.Typing.{AreOf, HasType, EquationsHave, is_outcome}
use Rattle.hume_model.specs.WellFormed.{HasSoundParts}
use Rattle.hume_model.proofs.OwnExceptions.{AreRaised}
use Rattle.hume_model.proofs.PatternTypes.{patterns_typed}
use Rattle.hume_model.proofs.CallTypes as types
use Rattle.hume_base.specs.Holding.{HoldSmaller}
use Rattle.box_costs.specs.Costs.{instructions}
use Rattle.box_costs.specs.PatternTests.{tries_all}
use Rattle.box_costs.specs.Spending.{Spent, after, ended, first_equation, spent_with, spent_below, spent}
use Rattle.box_costs.proofs.Outcomes.{calls_mean}
use Rattle.box_costs.proofs.Trials.{trials}
use Rattle.box_heap.specs.Standing.{AllStand}
use Rattle.box_code.specs.declared.instr.Instr.TheVariants.{Raise}
use Rattle.box_code.specs.Words.{StandsAt}
use Rattle.box_code.specs.Paths.{spots_from}
use Rattle.box_code.specs.Machine.{Setting, Machine}
use Rattle.box_code.specs.Represents.{Represents, EquationsStand, FunctionsStand, below}
use Rattle.code_laws.specs.Running.{later, RunsSpent}
use Rattle.code_laws.specs.Variables.{Hold, Fits}
use Rattle.code_laws.proofs.Heaps.{as_many, get_at, get_front}
use Rattle.code_laws.proofs.Steps.{append_nil}
use Rattle.code_laws.proofs.Combine.{reached, after_runs, over_runs, ended_runs}
use Rattle.code_laws.proofs.Leaves.{raises_runs}
use Rattle.code_laws.proofs.Trying.{AllAt}
use Rattle.code_laws.proofs.Tests.{tests_run}
use Rattle.code_laws.proofs.Patterns.{words_right}
use Rattle.code_laws.proofs.Forms.{trial_runs}
use Rattle.code_laws.proofs.TypedForms.{as_params}
use Rattle.code_laws.proofs.Binding.{bind_runs}
use Rattle.code_laws.proofs.Returning.{return_runs}
use Rattle.code_laws.proofs.Runs.{CalleesRun, runs}

module _ (core : Core) (own : AreRaised core) (down : HoldSmaller core.types) (calls : Calls)
    (called : (f : ℕ) (function : FunC) → slice_get core.funs f ≡ Some function → (args : List Value) → AreOf core.types function.params args → is_outcome core function.gives (calls f args) ≡ true)
    (scall : ℕ → List Value → Spent Outcome) (mean : (f : ℕ) (args : List Value) → (scall f args).outcome ≡ calls f args) (s : Setting) (entry : ℕ → Option ℕ) (callee : CalleesRun core s entry scall) where
  equations_run : (function : FunC) (equations : List EqC) → EquationsHave core function equations → (from : ℕ) → EquationsStand s.code entry (length function.params) from equations
      → (vs : List Value) → AreOf core.types function.params vs → (c : Machine) → c.at ≡ from → length c.stack ≤ c.peak → (base ws : List ℕ) (back low : ℕ) → c.stack ≡ base ++ (ws ++ back ∷ low ∷ [])
      → AllStand c.objects vs ws → back ≤ length s.code → (tall : ℕ) → tall ≡ length c.stack → RunsSpent s c base tall back (first_equation (spent_with scall) equations vs)
  equations_run function [] have from (EquationsStand.none next raise) vs is c at fit base ws back low stack stand within tall l =
      let a = length-append base (ws ++ back ∷ low ∷ []) in
      let b = length-append ws (back ∷ low ∷ []) in
      let e = ap length stack in
      raises_runs s c tall (Raise NO_CASE false) next NO_CASE 0 None (instructions 1) (subst (λ p. StandsAt s.code p (Raise NO_CASE false) next) (sym at) raise) refl refl refl refl
      (omega (arith, fit, l)) (omega (arith, fit, a, b, e))
  equations_run function (equation ∷ equations) (EquationsHave.one vars pats body rest) from (EquationsStand.more tested bound done other tests fields code return others) vs is c at fit base ws back low stack stand within tall l =
      let count = length function.params in
      let spots = spots_from equation.pats 0 in
      let a = length-append base (ws ++ back ∷ low ∷ []) in
      let b = length-append ws (back ∷ low ∷ []) in
      let e = ap length stack in
      let many : count ≡ length ws = sym (as_params core.types function.params vs is) ∙ as_many stand in
      let long : length c.stack ≡ length base + (count + 2) = omega (arith, a, b, e, many) in
      let right = words_right core.types down c.objects (length base) c.stack pats vs is ws stand 0
      (λ i w found. let d : length base + (0 + i) ≡ length base + i = omega arith in
      (λ k. slice_get (stack k) (d k)) ∙ get_at base (ws ++ back ∷ low ∷ []) i w (get_front ws (back ∷ low ∷ []) i w found)) in
      let t = tries_all equation.pats vs in
      let n1 = later c tested c.stack [] (tall + 0) in
      let n2 = later c other c.stack [] (tall + 0) in
      let objects : c.objects ≡ c.objects ++ [] = sym (append_nil c.objects) in
      let start : Fits (length base) [] [] (count + 2) n1 = record { low = omega (arith, fit, l); long = long; hold = Hold.none } in
      trial_runs s c base tall tested other back 1 t (spent_with scall equation.body) (first_equation (spent_with scall) equations vs) (omega (arith, fit, l)) (matches_all equation.pats vs)
      (trials equation.pats vs).passed (tests_run s (length base) (count + 2) tests c at long t right.same)
      (λ us found. let y = spent_with scall equation.body us in
      let z = ended 1 y in
      let k = bind_runs s (length base) [] [] (count + 2) bound spots n1 tall l start fields us (subst (λ o. AllAt o (length base) c.stack spots us) objects (right.there us found)) in
      let n3 = later n1 bound (n1.stack ++ k.words) [] (tall + length us + 0) in
      let height = k.height in
      let known = k.known in
      let z2 = after (instructions (length us)) z in
      over_runs s n1 tall (length us) base back z2.outcome z2.cost
      (after_runs s n1 (tall + length us) bound (n1.stack ++ k.words) [] (instructions (length us)) base back z.outcome z.cost k.comes refl
      (ended_runs s n3 (tall + length us) n3.stack done y.outcome y.cost base back 1
      (runs core own down calls called scall mean s entry callee body us (patterns_typed core.types down pats vs us is found) _ _ n3 done (length base) (tall + length us) (sym height) code k.fits)
      (λ u d h. return_runs s (reached s n3 n3.stack (tall + length us) done u y.cost h) base ws k.words back low h.word count (length spots) other
      (ap (λ x. (x ++ k.words) ++ h.word ∷ []) stack) many (sym known) within return))))
      (equations_run function equations rest other others vs is n2 refl (omega (arith, fit, l)) base ws back low stack (subst (λ o. AllStand o vs ws) objects stand) within tall l)

by_test : (b : Bool) (o : Option ℕ) (place : ℕ) → (if b then o else None) ≡ Some place → (b ≡ true) × (o ≡ Some place)
by_test true o place h = (refl, h)
by_test false o place h = cc

entered : (bound : ℕ) (entry : ℕ → Option ℕ) (f place : ℕ) → below bound entry f ≡ Some place → (f < bound) × (entry f ≡ Some place)
entered bound entry f place h = let k = by_test (nat_lt f bound) (entry f) place h in (ltb-true f bound k.0, k.1)

enter : (bound : ℕ) (entry : ℕ → Option ℕ) (f place : ℕ) → f < bound → entry f ≡ Some place → below bound entry f ≡ Some place
enter bound entry f place lt e = rw (lt-ltb f bound lt) e

module _ (core : Core) (sound : HasSoundParts core) (s : Setting) (entry : ℕ → Option ℕ) (stand : FunctionsStand s.code entry core) where
  calls_run : (bound : ℕ) → CalleesRun core s (below bound entry) (spent_below core bound)
  unfolding spent_below
  calls_run zero f place function found at vs is c here fit base ws back low stack stands within tall l = absurd (let k = entered 0 entry f place at in let lt = k.0 in omega (arith, lt))
  calls_run (suc bound) f place function found at vs is c here fit base ws back low stack stands within tall l =
      let k = entered (suc bound) entry f place at in
      let lt = k.0 in
      elim (cases_eq f bound) [
        | inl same ↦ rw (eq-eqb f bound same, ← same, found)
            (equations_run core (types.raised core sound) sound.holds (call_below core f) (types.calls_typed core sound f) (spent_below core f) (calls_mean core f) s (below f entry)
            (subst (λ b. CalleesRun core s (below b entry) (spent_below core b)) (sym same) (calls_run bound)) function function.equations (sound.functions f function found) place (stand f place function found k.1)
            vs is c here fit base ws back low stack stands within tall l)
        | inr other ↦ rw (ne_eqb f bound other)
            (calls_run bound f place function found (enter bound entry f place (omega (arith, lt, other)) k.1) vs is c here fit base ws back low stack stands within tall l)
      ]

  pub all_called : CalleesRun core s entry (spent_below core (length core.funs))
  all_called f place function found at =
      calls_run (length core.funs) f place function found (enter (length core.funs) entry f place (slice_get_within core.funs f function found) at)

  pub expression_runs : {vars : List Ty} {e : Expr} {t : Ty} → HasType core vars e t → (env : List Value) → AreOf core.types vars env
      → (places : List ℕ) (high : ℕ) (m : Machine) (to under tall : ℕ) → tall ≡ length m.stack → Represents s.code entry places high m.at to e → Fits under places env high m
      → RunsSpent s m m.stack tall to (spent core env e)
  expression_runs has env is places high m to under tall l rep fits =
      let n = length core.funs in
      runs core (types.raised core sound) sound.holds (call_below core n) (types.calls_typed core sound n) (spent_below core n) (calls_mean core n) s entry all_called has env is places high m to under tall l rep fits
