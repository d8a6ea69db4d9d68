-- A box in which a call is unfolded takes no more heap and no more stack than it did, and little more work.
use Rattle.std.proofs.Common.{◌≡◌, ℕ, zero, suc, ◌+◌, ◌==◌, ◌≤◌, Bool, true, false, List, [], ◌∷◌, map, length, Option, Some, None, slice_get, slice_set, refl, ap, sym, ◌∙◌, subst, arith, if◌then◌else◌}
use Rattle.std.specs.Bool.{⊤}
use Rattle.std.specs.Option.{option_and_then}
use Rattle.std.proofs.lemmas.Option.{get_or_from_slice_get, slice_get_within}
use Rattle.hume_base.specs.declared.limits.TheConstants.{MAX_PARAMETERS}
use Rattle.hume_base.specs.declared.types.Ty.{Ty}
use Rattle.hume_model.specs.declared.core_tree.Expr.{Expr}
use Rattle.hume_model.specs.declared.core_tree.Res.{Res}
use Rattle.hume_model.specs.declared.core_tree.EqC.{EqC}
use Rattle.hume_model.specs.declared.core_tree.FunC.{FunC}
use Rattle.hume_model.specs.declared.core_tree.RuleC.{RuleC}
use Rattle.hume_model.specs.declared.core_tree.HandC.{HandC}
use Rattle.hume_model.specs.declared.core_tree.BoxC.{BoxC}
use Rattle.hume_model.specs.declared.core_tree.NodeC.{NodeC}
use Rattle.hume_model.specs.declared.core_tree.NodeC.TheVariants.{Rules, From, To}
use Rattle.hume_model.specs.declared.core_tree.Core.{Core}
use Rattle.hume_model.specs.BoxTyping.{port_types}
use Rattle.hume_model.specs.Limits.{IsSmallFunction}
use Rattle.hume_model.specs.Raising.{result_may_raise}
use Rattle.hume_model.specs.Typing.{EquationsHave}
use Rattle.hume_model.specs.WellFormed.{IsWellFormed}
use Rattle.box_costs.specs.declared.cost.Cost.{Cost}
use Rattle.box_costs.specs.Costs.{above, any_of, both, nothing, objects, with_variables}
use Rattle.box_costs.specs.PatternTests.{variables_of_all}
use Rattle.box_costs.specs.Bounds.{bound_below, bound_with, box_bound, built_patterns, expression_bound, function_bound, handler_bound, handler_if_raised, inputs_build, result_bound, result_bound_with, rule_bound}
use Rattle.calculus_laws.specs.declared.step.Step.TheVariants.{Unfold}
use Rattle.calculus_laws.specs.Boxes.{as_box, box_at, with_box}
use Rattle.calculus_laws.specs.Naming.{variables}
use Rattle.calculus_laws.specs.Steps.{IsOnRule, refusal, rewritten}
use Rattle.calculus_laws.specs.UnfoldedBounds.{IsUnfoldedBound}
use Rattle.calculus_laws.specs.Unfolding.{result_unfolded, unfolded_at, with_rule}
use Rattle.calculus_laws.proofs.ChangedBox.{BothAt, box_there, related_at}
use Rattle.calculus_laws.proofs.KeptRaising.{raising_kept}
use Rattle.calculus_laws.proofs.Runs.{at_box, box_allowed, by_rule}
use Rattle.calculus_laws.proofs.UnfoldedBounds.{bound_self, either_left, either_right, unfolded_bound}
use Rattle.calculus_laws.proofs.UnfoldedRaising.{unfolded_raises}
use Rattle.calculus_laws.proofs.UnfoldedRuns.{IsUnfolded, becomes_some, is_unfolded}
use Rattle.calculus_laws.proofs.UnfoldedTypes.{patterns_length}

-- the same bounds in a core with the same functions
module _ (core : Core) (nodes : List NodeC) where
  abbrev other_core : Core
  other_core = record core { nodes = nodes }

  below_kept : (bound : ℕ) → bound_below other_core bound ≡ bound_below core bound
  unfolding bound_below
  below_kept zero = refl
  below_kept (suc bound) = λ i function.
      if function == bound then function_bound (bound_with (below_kept bound i)) (slice_get core.funs bound) else below_kept bound i function

  result_kept : (r : Res) → result_bound other_core r ≡ result_bound core r
  result_kept r = λ i. result_bound_with (bound_with (below_kept (length core.funs) i)) r

  handler_kept : (r : Res) (handler : HandC) → handler_if_raised other_core r handler ≡ handler_if_raised core r handler
  handler_kept r handler = λ i.
      if raising_kept core nodes handler.exn r i
      then above 1 (with_variables (if handler.bound then 1 else 0) 0 (result_kept handler.result i)) else nothing

  rule_kept : (b : BoxC) (rule : RuleC) → rule_bound other_core b rule ≡ rule_bound core b rule
  rule_kept b rule = λ i.
      both (both (objects (inputs_build core.types (port_types b.ins) rule.pats))
      (above (length (built_patterns rule.pats)) (with_variables (variables_of_all (built_patterns rule.pats)) 0 (result_kept rule.result i))))
      (any_of (map (λ handler. handler_kept rule.result handler i) b.handlers))

  pub box_kept : (b : BoxC) → box_bound other_core b ≡ box_bound core b
  box_kept b = λ i. any_of (map (λ rule. rule_kept b rule i) b.rules)

-- no more of each than before
record NoMore (new old : Cost) : Type 0 where
  heap : new.heap ≤ old.heap
  stack : new.stack ≤ old.stack
  work : new.work ≤ old.work

chosen_less : (new old : Bool) (c : Cost) → (new ≡ true → old ≡ true) → NoMore (if new then c else nothing) (if old then c else nothing)
chosen_less true old c follows = rw (follows refl) (record { heap = omega arith; stack = omega arith; work = omega arith })
chosen_less false old c follows = record { heap = omega arith; stack = omega arith; work = omega arith }

handlers_less : (f g : HandC → Cost) → ((handler : HandC) → NoMore (f handler) (g handler)) → (handlers : List HandC) → NoMore (any_of (map f handlers)) (any_of (map g handlers))
handlers_less f g each [] = record { heap = omega arith; stack = omega arith; work = omega arith }
handlers_less f g each (handler ∷ handlers) =
    let one = each handler in
    let rest = handlers_less f g each handlers in
    record {
      heap = omega (arith, one.heap, rest.heap);
      stack = omega (arith, one.stack, rest.stack);
      work = omega (arith, one.work, rest.work);
    }

-- one rule is another
one_rule_less : (f : RuleC → Cost) (rules : List RuleC) (number : ℕ) (old new : RuleC) → slice_get rules number ≡ Some old → IsUnfoldedBound (f new) (f old)
    → IsUnfoldedBound (any_of (map f (slice_set rules number new))) (any_of (map f rules))
one_rule_less f [] number old new at less = bound_self _
one_rule_less f (rule ∷ rules) zero old new at less =
    let same : rule ≡ old = cc in
    rw same (either_left _ _ (any_of (map f rules)) less)
one_rule_less f (rule ∷ rules) (suc number) old new at less = either_right (f rule) _ _ (one_rule_less f rules number old new at less)

module _ (core : Core) (formed : IsWellFormed core) where
  few : (f : ℕ) (function : FunC) (equation : EqC) → slice_get core.funs f ≡ Some function → function.equations ≡ equation ∷ [] → length equation.pats ≤ MAX_PARAMETERS
  few f function equation found only =
      let small : IsSmallFunction core.types function =
      subst (IsSmallFunction core.types) (get_or_from_slice_get core.funs f function function found)
      (formed.frame.limits.each_function f function (slice_get_within core.funs f function found)) in
      count small.params (subst (EquationsHave core function) only (formed.functions f function found))
    where
      count : length function.params ≤ MAX_PARAMETERS → EquationsHave core function (equation ∷ []) → length equation.pats ≤ MAX_PARAMETERS
      count small (EquationsHave.one vars have body rest) = (let same = patterns_length have in omega (arith, small, same))

  module _ (n number : ℕ) (b : BoxC) (there : box_at core n ≡ Some b) (new_rule : RuleC) (is : IsUnfolded core b number new_rule) where
    abbrev other : BoxC
    other = with_rule number new_rule b

    abbrev scope : ℕ
    scope = length (variables core.types b is.rule)

    result_less : IsUnfoldedBound (result_bound core is.result) (result_bound core is.rule.result)
    result_less =
        becomes_some (λ r. IsUnfoldedBound (result_bound core r) (result_bound core is.rule.result)) (result_unfolded core scope is.rule.result) is.result is.unfolded
        (unfolded_bound core formed.calls few is.rule.result scope)

    raises_less : (exn : ℕ) → result_may_raise core exn is.result ≡ true → result_may_raise core exn is.rule.result ≡ true
    raises_less exn =
        becomes_some (λ r. result_may_raise core exn r ≡ true → result_may_raise core exn is.rule.result ≡ true) (result_unfolded core scope is.rule.result) is.result is.unfolded
        (unfolded_raises core formed.calls exn is.rule.result scope)

    unfolded_less : IsUnfoldedBound (rule_bound core b (record is.rule { result = is.result })) (rule_bound core b is.rule)
    unfolded_less =
        let r = result_less in
        let h = handlers_less (handler_if_raised core is.result) (handler_if_raised core is.rule.result)
        (λ handler. chosen_less _ _ (handler_bound core handler) (raises_less handler.exn)) b.handlers in
        record {
          heap = omega (arith, r.heap, h.heap);
          stack = omega (arith, r.stack, h.stack);
          work = omega (arith, r.work, h.work);
        }

    box_less : IsUnfoldedBound (box_bound core other) (box_bound core b)
    box_less =
        one_rule_less (rule_bound core b) b.rules number is.rule new_rule is.there
        (subst (λ r. IsUnfoldedBound (rule_bound core b r) (rule_bound core b is.rule)) (sym is.is) unfolded_less)

    abbrev NodesLess : NodeC → NodeC → Type 0
    NodesLess (Rules old) (Rules new) = IsUnfoldedBound (box_bound core new) (box_bound core old)
    NodesLess _ node = ⊤

    self_less : (node : NodeC) → NodesLess node node
    self_less (Rules c) = bound_self _
    self_less (From stream) = tt
    self_less (To stream) = tt

    nodes_less : (m : ℕ) → BothAt NodesLess (slice_get core.nodes m) (slice_get (slice_set core.nodes n (Rules other)) m)
    nodes_less = related_at NodesLess core.nodes (λ m node found. self_less node) n (Rules b) (Rules other) (box_there core n b there) box_less

    -- each box of the new core keeps the bound of the old one
    pub boxes_less : (m : ℕ) (old new : BoxC) → box_at core m ≡ Some old → box_at (with_box core n other) m ≡ Some new
        → IsUnfoldedBound (box_bound (with_box core n other) new) (box_bound core old)
    boxes_less m old new was is_now =
        let at = nodes_less m in
        let before = box_there core m old was in
        let after = box_there (with_box core n other) m new is_now in
        subst (λ c. IsUnfoldedBound c (box_bound core old)) (sym (box_kept core (slice_set core.nodes n (Rules other)) new))
        (subst (λ o. BothAt NodesLess (Some (Rules old)) o) after (subst (λ o. BothAt NodesLess o (slice_get (slice_set core.nodes n (Rules other)) m)) before at))

-- no unfold raises a bound of heap or stack
pub unfolds_less : (core : Core) → IsWellFormed core → (node rule : ℕ) → IsOnRule core (Unfold node rule) → refusal core (Unfold node rule) ≡ None
    → (n : ℕ) (old new : BoxC) → box_at core n ≡ Some old → box_at (rewritten core (Unfold node rule)) n ≡ Some new
    → IsUnfoldedBound (box_bound (rewritten core (Unfold node rule)) new) (box_bound core old)
unfolds_less core formed node rule on allowed n old new was =
    at_box (λ other. box_at other n ≡ Some new → IsUnfoldedBound (box_bound other new) (box_bound core old)) core (Unfold node rule) on
    (by_rule (λ other. box_at other n ≡ Some new → IsUnfoldedBound (box_bound other new) (box_bound core old)) core node rule on.b
    (λ new_rule is. boxes_less core formed node rule on.b on.there new_rule (is_unfolded core on.b rule new_rule is) n old new was)
    (unfolded_at core on.b rule) refl (box_allowed core (Unfold node rule) on allowed))
