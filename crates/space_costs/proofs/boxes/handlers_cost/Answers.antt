use Rattle.std.proofs.Common.{◌≡◌, ◌-◌, ◌<◌, if◌then◌else◌, Bool, List, ◌∷◌, map, drop, sym, subst, arith}
use Rattle.std.proofs.lemmas.List.Elements.{All-get_or}
use Rattle.hume_base.specs.declared.limits.TheConstants.{MAX_EXCEPTIONS}
use Rattle.hume_model.specs.declared.core_tree.HandC.{HandC}
use Rattle.box_costs.specs.Costs.{nothing, any_of}
use Rattle.box_costs.specs.Bounds.{handler_bound, handler_if_raised}
use Rattle.space_costs.specs.inner.Standing.{IsCostOf, IsKnownHandler}
use Rattle.space_costs.proofs.Lists.{item_left}
use Rattle.space_costs.proofs.boxes.handlers_cost.Goals as goal

pub loop-i-preserved : goal.loop-i-preserved
loop-i-preserved c =
    let core = c.args.core.now in
    let outcome = c.args.outcome.now in
    let handlers : List HandC = c.args.handlers.now in
    let handler : HandC = c.index-handlers-i.result in
    let left : drop (c.loop-i.i - 1) handlers ≡ handler ∷ drop c.loop-i.i handlers = item_left handlers c.loop-i.i handler (omega (arith, c.loop-i-test.true)) (omega (arith, c.loop-i.auto.i)) c.index-handlers-i.is in
    let known : handler.exn < MAX_EXCEPTIONS =
    subst (λ (h : HandC). h.exn < MAX_EXCEPTIONS) (sym c.index-handlers-i.is) (All-get_or IsKnownHandler handlers (c.loop-i.i - 1) handler (omega (arith, c.loop-i-test.true, c.loop-i.auto.i)) c.requires.handlers) in
    let own : IsCostOf c.handler_cost.result (handler_if_raised core outcome handler) =
    subst (λ (b : Bool). IsCostOf c.handler_cost.result (if b then handler_bound core handler else nothing)) (c.result_may_raise-raised.ensures.each handler.exn known) c.handler_cost.ensures in
    subst (λ (l : List HandC). IsCostOf c.either-cost.result (any_of (map (handler_if_raised core outcome) l))) (sym left)
    (c.either-cost.ensures _ _ own c.loop-i.invariant)
