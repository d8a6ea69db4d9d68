-- A rule and a box take no more than their bounds, and just their bounds where nothing is chosen.
use Rattle.std.proofs.Common.{◌≡◌, ℕ, zero, suc, ◌+◌, ◌==◌, ◌&&◌, Bool, true, false, if◌then◌else◌, List, [], ◌∷◌, map, length, Option, Some, None, slice_get, refl, ap, sym, ◌∙◌, subst, arith}
use Rattle.std.proofs.lemmas.Bool.{and_parts, eqb-true}
use Rattle.std.proofs.lemmas.List.{length-append}
use Rattle.std.proofs.lemmas.Option.{same_Some}
use Rattle.std.specs.List.{find}
use Rattle.std.specs.Option.{is_some, option_map, option_and_then, unwrap_or}
use Rattle.hume_base.specs.declared.types.Ty.{Ty}
use Rattle.hume_base.specs.declared.types.Types.{Types}
use Rattle.hume_base.specs.declared.types.Value.{Value}
use Rattle.hume_base.specs.Values.{is_value}
use Rattle.hume_model.specs.declared.core_tree.InPat.{InPat}
use Rattle.hume_model.specs.declared.core_tree.InPat.TheVariants.{Star, AnyStar, Any, Built}
use Rattle.hume_model.specs.declared.core_tree.PatC.{PatC}
use Rattle.hume_model.specs.declared.core_tree.Res.{Res}
use Rattle.hume_model.specs.declared.core_tree.RuleC.{RuleC}
use Rattle.hume_model.specs.declared.core_tree.HandC.{HandC}
use Rattle.hume_model.specs.declared.core_tree.BoxC.{BoxC}
use Rattle.hume_model.specs.declared.core_tree.Core.{Core}
use Rattle.hume_model.specs.declared.outcome.Outputs.{Outputs}
use Rattle.hume_model.specs.declared.outcome.Outputs.TheVariants.{Asserts, Throws}
use Rattle.hume_model.specs.declared.outcome.Firing.{Firing}
use Rattle.hume_model.specs.Patterns.{matches}
use Rattle.hume_model.specs.Matching.{fits, bound}
use Rattle.hume_model.specs.Firing as f
use Rattle.hume_model.specs.ResultTyping.{are_outputs}
use Rattle.hume_model.specs.BoxTyping.{PositionsHave, BoxIsTyped, port_types}
use Rattle.hume_model.specs.Raising.{result_may_raise}
use Rattle.hume_model.specs.WellFormed.{HasSoundParts}
use Rattle.hume_model.proofs.FiringTypes.{bound_typed, found_in}
use Rattle.hume_exceptions.proofs.ResultsCover.{result_covers}
use Rattle.box_costs.specs.declared.cost.Cost.{Cost}
use Rattle.box_costs.specs.Costs.{nothing, instructions, objects, above, either, any_of, with_variables, IsAtMost}
use Rattle.box_costs.specs.PatternTests.{variables_of, variables_of_all}
use Rattle.box_costs.specs.Building.{built_of, build_of}
use Rattle.box_costs.specs.Bounds.{result_bound, handler_variables, handler_bound, handler_if_raised, built_patterns, inputs_build, rule_bound, box_bound}
use Rattle.box_costs.specs.Spending.{Spent}
use Rattle.box_costs.specs.ResultSpending.{result_taken, result_spent, handler_spent, handled_by, handled, inputs_built, rule_spent, cost_if_fits, fire_spent, box_spent}
use Rattle.box_costs.specs.Straight.{has_one_form, are_alike_positions, HasOneWay}
use Rattle.box_costs.proofs.CostSteps.{sum_more, same_cost, self_most, most_of, both_most, above_most, nothing_most, left_most, right_most}
use Rattle.box_costs.proofs.Trials.{trial}
use Rattle.box_costs.proofs.Exact.{both_same}
use Rattle.box_costs.proofs.Results.{sound}
use Rattle.box_costs.proofs.Built.{IsBuilt, is_built, is_built_alike}

-- a rule that fits gives its variables as many values as they are
matched_count : (p : PatC) (v : Value) (m : Option (List Value)) → matches p v ≡ m → is_some m ≡ true → length (unwrap_or m []) ≡ variables_of p
matched_count p v None found is = cc
matched_count p v (Some vs) found is = (trial p v).count vs found

bound_count : (pats : List InPat) (ins : List (Option Value)) → fits pats ins ≡ true → length (bound pats ins) ≡ variables_of_all (built_patterns pats)
bound_count [] ins h = refl
bound_count (pat ∷ pats) [] h = cc
bound_count (Star ∷ pats) (input ∷ ins) h = bound_count pats ins h
bound_count (AnyStar ∷ pats) (input ∷ ins) h = bound_count pats ins h
bound_count (Any ∷ pats) (input ∷ ins) h = bound_count pats ins (and_parts (is_some input) _ h).1
bound_count (Built p ∷ pats) (None ∷ ins) h = cc
bound_count (Built p ∷ pats) (Some v ∷ ins) h =
    let hs = and_parts (is_some (matches p v)) _ h in
    length-append (unwrap_or (matches p v) []) (bound pats ins)
    ∙ (let a = matched_count p v (matches p v) refl hs.0 in
    let b = bound_count pats ins hs.1 in
    let c = sum_more (variables_of p) (map variables_of (built_patterns pats)) in
    omega (arith, a, b, c))

no_more : (a b : ℕ) (g : Bool) → IsBuilt a b g → IsBuilt (0 + a) (0 + b) g
no_more a b g p = record { few = omega (arith, p.few); alike = λ h. (let e = p.alike h in omega (arith, e)) }

both_built : (a b c d : ℕ) (g k : Bool) → IsBuilt a b g → IsBuilt c d k → IsBuilt (a + c) (b + d) (g && k)
both_built a b c d g k p q = record {
  few = omega (arith, p.few, q.few);
  alike = λ h. (let hs = and_parts g k h in let x = p.alike hs.0 in let y = q.alike hs.1 in omega (arith, x, y));
}

-- the inputs of a rule that fits are built of no more words than their types allow
positions_built : (types : Types) {tys vars : List Ty} {pats : List InPat} → PositionsHave types tys pats vars → (ins : List (Option Value))
    → are_outputs types tys ins ≡ true → fits pats ins ≡ true → IsBuilt (inputs_built pats ins) (inputs_build types tys pats) (are_alike_positions types tys pats)
positions_built types PositionsHave.none ins are fit = record { few = omega arith; alike = λ h. refl }
positions_built types (PositionsHave.star rest) [] are fit = cc
positions_built types (PositionsHave.star rest) (None ∷ ins) are fit = no_more _ _ _ (positions_built types rest ins are fit)
positions_built types (PositionsHave.star rest) (Some v ∷ ins) are fit = no_more _ _ _ (positions_built types rest ins (and_parts _ _ are).1 fit)
positions_built types (PositionsHave.any_star rest) [] are fit = cc
positions_built types (PositionsHave.any_star rest) (None ∷ ins) are fit = no_more _ _ _ (positions_built types rest ins are fit)
positions_built types (PositionsHave.any_star rest) (Some v ∷ ins) are fit = no_more _ _ _ (positions_built types rest ins (and_parts _ _ are).1 fit)
positions_built types (PositionsHave.any rest) [] are fit = cc
positions_built types (PositionsHave.any rest) (None ∷ ins) are fit = cc
positions_built types (PositionsHave.any rest) (Some v ∷ ins) are fit = no_more _ _ _ (positions_built types rest ins (and_parts _ _ are).1 fit)
positions_built types (PositionsHave.built pattern rest) [] are fit = cc
positions_built types (PositionsHave.built pattern rest) (None ∷ ins) are fit = cc
positions_built types (PositionsHave.built {ty = t} {p = p} pattern rest) (Some v ∷ ins) are fit =
    let is = and_parts (is_value types t v) _ are in
    let hs = and_parts (is_some (matches p v)) _ fit in
    both_built (built_of v) (build_of types t) _ _ (has_one_form types t) _ (record { few = is_built types t v is.0; alike = λ one. is_built_alike types t v is.0 one })
    (positions_built types rest ins is.1 hs.1)

-- a thing of a list takes no more than the dearest of the list
among : {X : Type 0} (cost : X → Cost) (xs : List X) (i : ℕ) (x : X) → slice_get xs i ≡ Some x → (c : Cost) → IsAtMost c (cost x) → IsAtMost c (any_of (map cost xs))
among cost [] i x found c p = cc
among cost (y ∷ ys) zero x found c p = left_most c (cost y) _ (subst (λ z. IsAtMost c (cost z)) (sym (same_Some y x found)) p)
among cost (y ∷ ys) (suc i) x found c p = right_most c (cost y) _ (among cost ys i x found c p)

handler_within : (core : Core) (carried : Option Value) (handler : HandC) → IsAtMost (handler_spent core carried handler).cost (handler_bound core handler)
handler_within core carried handler =
    let p = (sound core handler.result).within (f.handler_env handler carried) in
    above_most 1 _ _ (above_most (handler_variables handler) _ _ (both_most _ _ _ _ (self_most (instructions (handler_variables handler)))
    (record { heap = omega (arith, p.heap); stack = omega (arith, p.stack); work = omega (arith, p.work) })))

if_raised : (core : Core) (result : Res) (handler : HandC) (b : Bool) → b ≡ true → IsAtMost (handler_bound core handler) (if b then handler_bound core handler else nothing)
if_raised core result handler true h = self_most _
if_raised core result handler false h = cc

handlers_within : (core : Core) (result : Res) (handlers : List HandC) (exn : ℕ) (carried : Option Value) → result_may_raise core exn result ≡ true → (h : Option HandC)
    → find (λ (handler : HandC). handler.exn == exn) handlers ≡ h → IsAtMost (handled_by core carried h).cost (any_of (map (handler_if_raised core result) handlers))
handlers_within core result handlers exn carried may None found = nothing_most _
handlers_within core result handlers exn carried may (Some handler) found =
    let at = found_in (λ (handler : HandC). handler.exn == exn) handlers handler found in
    let own : result_may_raise core handler.exn result ≡ true = ap (λ x. result_may_raise core x result) (eqb-true handler.exn exn at.2) ∙ may in
    among (handler_if_raised core result) handlers at.0 handler at.1 (handler_spent core carried handler).cost
    (most_of _ _ _ (handler_within core carried handler) (if_raised core result handler (result_may_raise core handler.exn result) own))

handled_within : (core : Core) (result : Res) (handlers : List HandC) (o : Outputs) → ((exn : ℕ) (carried : Option Value) → o ≡ Throws exn carried → result_may_raise core exn result ≡ true)
    → IsAtMost (handled core handlers o).cost (any_of (map (handler_if_raised core result) handlers))
handled_within core result handlers (Asserts outs) may = nothing_most _
handled_within core result handlers (Throws exn carried) may = handlers_within core result handlers exn carried (may exn carried refl) _ refl

no_handlers : (core : Core) (result : Res) → ((exn : ℕ) → result_may_raise core exn result ≡ false) → (handlers : List HandC) → any_of (map (handler_if_raised core result) handlers) ≡ nothing
no_handlers core result silent [] = refl
no_handlers core result silent (handler ∷ handlers) =
    let first : handler_if_raised core result handler ≡ nothing = λ i. if silent handler.exn i then handler_bound core handler else nothing in
    let rest = no_handlers core result silent handlers in
    (λ i. either (first i) (rest i)) ∙ same_cost (either nothing nothing) nothing refl refl refl

module _ (core : Core) (parts : HasSoundParts core) (b : BoxC) (typed : BoxIsTyped core b) (number : ℕ) (rule : RuleC) (there : slice_get b.rules number ≡ Some rule)
    (ins : List (Option Value)) (are : are_outputs core.types (port_types b.ins) ins ≡ true) (fit : fits rule.pats ins ≡ true) where
  abbrev values : List Value
  values = bound rule.pats ins

  abbrev result : Spent Outputs
  result = result_spent core values rule.result

  inputs : IsBuilt (inputs_built rule.pats ins) (inputs_build core.types (port_types b.ins) rule.pats) (are_alike_positions core.types (port_types b.ins) rule.pats)
  inputs = positions_built core.types (typed.rules number rule there).positions.have ins are fit

  -- what the result raises, it may raise
  expected : (exn : ℕ) (carried : Option Value) → result.outcome ≡ Throws exn carried → result_may_raise core exn rule.result ≡ true
  expected exn carried throws =
      let own = typed.rules number rule there in
      (result_covers core parts exn (port_types b.outs) own.outputs values (bound_typed core.types parts.holds own.positions.have ins are fit)).by carried
      (sym ((sound core rule.result).means values) ∙ throws)

  variables_within : IsAtMost (result_taken (λ vs. result_spent core vs rule.result) values).cost (with_variables (variables_of_all (built_patterns rule.pats)) 0 (result_bound core rule.result))
  variables_within =
      let p = (sound core rule.result).within values in
      subst (λ k. IsAtMost (result_taken (λ vs. result_spent core vs rule.result) values).cost (with_variables k 0 (result_bound core rule.result))) (bound_count rule.pats ins fit)
      (above_most (length values) _ _ (both_most _ _ _ _ (self_most (instructions (length values)))
      (record { heap = omega (arith, p.heap); stack = omega (arith, p.stack); work = omega (arith, p.work) })))

  objects_within : IsAtMost (objects (inputs_built rule.pats ins)) (objects (inputs_build core.types (port_types b.ins) rule.pats))
  objects_within = let p = inputs in record { heap = p.few; stack = omega arith; work = omega arith }

  pub rule_within : IsAtMost (rule_spent core b ins rule).cost (rule_bound core b rule)
  rule_within =
      both_most _ _ _ _ (both_most _ _ _ _ objects_within (above_most (length (built_patterns rule.pats)) _ _ variables_within))
      (handled_within core rule.result b.handlers result.outcome expected)

  module _ (way : HasOneWay core b rule) where
    asserts : (o : Outputs) → result.outcome ≡ o → (outs : List (Option Value)) × (o ≡ Asserts outs)
    asserts (Asserts outs) is = (outs, refl)
    asserts (Throws exn carried) is = (let h : true ≡ false = sym (expected exn carried is) ∙ way.silent exn in cc)

    result_exact : result.cost ≡ result_bound core rule.result
    result_exact = let given = asserts result.outcome refl in ((sound core rule.result).exact way.straight values).by given.0 given.1

    variables_exact : (result_taken (λ vs. result_spent core vs rule.result) values).cost ≡ with_variables (variables_of_all (built_patterns rule.pats)) 0 (result_bound core rule.result)
    variables_exact =
        let e = bound_count rule.pats ins fit in
        let h = ap (λ (c : Cost). c.heap) result_exact in
        let s = ap (λ (c : Cost). c.stack) result_exact in
        let w = ap (λ (c : Cost). c.work) result_exact in
        same_cost _ _ (omega (arith, h)) (omega (arith, s, e)) (omega (arith, w, e))

    handled_exact : (o : Outputs) (outs : List (Option Value)) → o ≡ Asserts outs → (handled core b.handlers o).cost ≡ nothing
    handled_exact (Asserts more) outs is = refl
    handled_exact (Throws exn carried) outs is = cc

    pub rule_exact : (rule_spent core b ins rule).cost ≡ rule_bound core b rule
    rule_exact =
        let given = asserts result.outcome refl in
        both_same _ _ _ _
        (both_same _ _ _ _ (ap objects (inputs.alike way.inputs)) (ap (above (length (built_patterns rule.pats))) variables_exact))
        (handled_exact result.outcome given.0 given.1 ∙ sym (no_handlers core rule.result way.silent b.handlers))

module _ (core : Core) (parts : HasSoundParts core) (b : BoxC) (typed : BoxIsTyped core b) (ins : List (Option Value)) (are : are_outputs core.types (port_types b.ins) ins ≡ true) where
  by_rule : (number : ℕ) (r : Option RuleC) → slice_get b.rules number ≡ r → f.rule_fits ins r ≡ true
      → IsAtMost (cost_if_fits (option_map (rule_spent core b ins) r)) (box_bound core b)
  by_rule number None found fit = nothing_most _
  by_rule number (Some rule) found fit =
      among (rule_bound core b) b.rules number rule found (rule_spent core b ins rule).cost (rule_within core parts b typed number rule found ins are fit)

  by_number : (order : List ℕ) (n : Option ℕ) → find (λ number. f.rule_fits ins (slice_get b.rules number)) order ≡ n
      → IsAtMost (cost_if_fits (option_and_then (λ number. option_map (rule_spent core b ins) (slice_get b.rules number)) n)) (box_bound core b)
  by_number order None found = nothing_most _
  by_number order (Some number) found =
      by_rule number (slice_get b.rules number) refl (found_in (λ number. f.rule_fits ins (slice_get b.rules number)) order number found).2

  pub box_within : (order : List ℕ) → IsAtMost (box_spent core b order ins) (box_bound core b)
  box_within order = by_number order (find (λ number. f.rule_fits ins (slice_get b.rules number)) order) refl

-- what fires gives what the meaning gives
handled_by_means : (core : Core) (carried : Option Value) (h : Option HandC) → (handled_by core carried h).outcome ≡ f.handled_by core carried h
handled_by_means core carried None = refl
handled_by_means core carried (Some handler) = ap f.outputs_or_none ((sound core handler.result).means (f.handler_env handler carried))

handled_means : (core : Core) (handlers : List HandC) (o : Outputs) → (handled core handlers o).outcome ≡ f.handled core handlers o
handled_means core handlers (Asserts outs) = refl
handled_means core handlers (Throws exn carried) = handled_by_means core carried (find (λ (handler : HandC). handler.exn == exn) handlers)

rule_means : (core : Core) (b : BoxC) (number : ℕ) (ins : List (Option Value)) (rule : RuleC) → (rule_spent core b ins rule).outcome ≡ (f.firing_of core b number ins rule).outs
rule_means core b number ins rule =
    handled_means core b.handlers (result_spent core (bound rule.pats ins) rule.result).outcome ∙ ap (f.handled core b.handlers) ((sound core rule.result).means (bound rule.pats ins))

abbrev outs_spent_of : Option (Spent (List (Option Value))) → Option (List (Option Value))
outs_spent_of firing = option_map (λ (s : Spent (List (Option Value))). s.outcome) firing

abbrev outs_fired : Option Firing → Option (List (Option Value))
outs_fired firing = option_map (λ (x : Firing). x.outs) firing

rule_there : (core : Core) (b : BoxC) (number : ℕ) (ins : List (Option Value)) (r : Option RuleC)
    → outs_spent_of (option_map (rule_spent core b ins) r) ≡ outs_fired (option_map (f.firing_of core b number ins) r)
rule_there core b number ins None = refl
rule_there core b number ins (Some rule) = ap (λ outs. Some outs) (rule_means core b number ins rule)

number_there : (core : Core) (b : BoxC) (ins : List (Option Value)) (n : Option ℕ)
    → outs_spent_of (option_and_then (λ number. option_map (rule_spent core b ins) (slice_get b.rules number)) n)
    ≡ outs_fired (option_and_then (λ number. option_map (f.firing_of core b number ins) (slice_get b.rules number)) n)
number_there core b ins None = refl
number_there core b ins (Some number) = rule_there core b number ins (slice_get b.rules number)

pub fires : (core : Core) (b : BoxC) (order : List ℕ) (ins : List (Option Value)) → outs_spent_of (fire_spent core b order ins) ≡ outs_fired (f.fire core b order ins)
fires core b order ins = number_there core b ins (find (λ number. f.rule_fits ins (slice_get b.rules number)) order)
