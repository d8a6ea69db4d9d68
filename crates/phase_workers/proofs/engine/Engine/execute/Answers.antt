use Rattle.std.proofs.Common.{◌≡◌, ◌≤◌, ℕ, [], ap, sym, ◌∙◌, subst, arith}
use Rattle.hume_net.specs.Lockstep.{mid}
use Rattle.hume_net.specs.Nodes.{IsOutputStream}
use Rattle.hume_net.specs.Sides.{part_of}
use Rattle.hume_streams.specs.Queues.{without_values}
use Rattle.phase_workers.specs.Engines.{EngineView, core_of, queue_at, span_of, state_of}
use Rattle.phase_workers.specs.inner.Whole.{opening_at}
use Rattle.phase_workers.proofs.Halving.{first_span, midst_now, queue_later, until_first}
use Rattle.phase_workers.proofs.Rounding.{plan_is}
use Rattle.phase_workers.proofs.engine.Engine.execute.Goals as goal

pub sweep_all-requires-clause-plan : goal.sweep_all-requires-clause-plan
sweep_all-requires-clause-plan c = plan_is _ _ _ _ _ _ _ c.self.invariant

pub sweep_all-requires-clause-right : goal.sweep_all-requires-clause-right
sweep_all-requires-clause-right c =
    let inside = c.self.inside in
    let whole = c.self.invariant in
    let few = subst (λ (v : EngineView). 1 ≤ span_of v) (sym c.self.view_is) c.requires.span in
    let clear = subst (λ (v : EngineView). (n : ℕ) → IsOutputStream (core_of v) n → (part_of (state_of v) n).taken ≡ []) (sym c.self.view_is) c.requires.clear in
    (opening_at inside.core inside.seen.state inside.nodes.items, whole.opens, whole.right, λ even. first_span _ _ _ _ _ _ _ whole few clear)

pub invariant_of-result : goal.invariant_of-result
invariant_of-result c =
    let inside = c.self.inside in
    let whole = c.self.invariant in
    let done = c.sweep_all.ensures in
    let right = done.right (opening_at inside.core inside.seen.state inside.nodes.items) whole.opens whole.right in
    midst_now inside.core inside.bare inside.paths inside.span inside.seen.state inside.nodes.items inside.home.items whole c.sweep_all.new.nodes.items c.sweep_all.new.home.items done.place right done.wires done.from
    (done.until 1 (omega arith) (until_first _ _ _ _ _ _ _ whole))

pub returns-clause-queues : goal.returns-clause-queues
returns-clause-queues c = λ n.
    let inside = c.self.inside in
    let whole = c.self.invariant in
    let done = c.sweep_all.ensures in
    let right = done.right (opening_at inside.core inside.seen.state inside.nodes.items) whole.opens whole.right in
    ap without_values (queue_later inside.core inside.bare inside.paths inside.span inside.seen.state inside.nodes.items inside.home.items whole c.sweep_all.new.nodes.items c.sweep_all.new.home.items done.place right n)
    ∙ ap (λ (v : EngineView). queue_at v n) c.self.view_is

pub returns-clause-state : goal.returns-clause-state
returns-clause-state c = ap (λ (v : EngineView). mid (core_of v) (state_of v)) c.self.view_is
