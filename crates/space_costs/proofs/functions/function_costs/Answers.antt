use Rattle.std.proofs.Common.{◌≡◌, ◌+◌, List, Some, map, slice_get, refl, sym, subst}
use Rattle.std.proofs.lemmas.Option.{slice_get_read}
use Rattle.hume_model.specs.declared.core_tree.EqC.{EqC}
use Rattle.box_costs.specs.declared.cost.Cost.{Cost}
use Rattle.box_costs.specs.Costs.{one_way}
use Rattle.box_costs.specs.Bounds.{equation_way, bound_with, bound_below}
use Rattle.space_costs.specs.inner.Standing.{IsCostOf, AreCostsOf}
use Rattle.space_costs.proofs.FunctionCosts.{AreCostsBelow, no_costs, next_cost}
use Rattle.space_costs.proofs.functions.function_costs.Goals as goal

pub loop-function-init : goal.loop-function-init
loop-function-init c = subst (λ (costs : List Cost). AreCostsBelow c.args.core.now 0 costs) (sym c.new-costs.ensures) (no_costs c.args.core.now)

pub loop-function-preserved : goal.loop-function-preserved
loop-function-preserved c =
    let core = c.args.core.now in
    let function = c.function-item.result in
    let k = c.loop-function.function-index in
    let here : slice_get c.as_slice-function-items.result.now k ≡ Some function = slice_get_read _ _ k function refl c.loop-function-test.true c.function-item.is in
    let found : slice_get core.funs k ≡ Some function = rw c.as_slice-function-items.ensures at here in
    let below : AreCostsOf c.as_slice.result.now (bound_below core k) = subst (λ (costs : List Cost). AreCostsOf costs (bound_below core k)) (sym c.as_slice.ensures) c.loop-function.invariant.each in
    let is : IsCostOf c.equations_cost.result (one_way (map (equation_way (bound_with (bound_below core k))) function.equations)) =
    subst (λ (equations : List EqC). IsCostOf c.equations_cost.result (one_way (map (equation_way (bound_with (bound_below core k))) equations))) c.as_slice-in-loop-function.ensures
    (c.equations_cost.ensures (bound_below core k) below) in
    subst (λ (costs : List Cost). AreCostsBelow core (k + 1) costs) (sym c.in_ok-push.ensures.ok) (next_cost core k c.loop-function.costs function c.equations_cost.result c.loop-function.invariant found is)
