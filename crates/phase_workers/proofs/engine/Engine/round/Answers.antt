use Rattle.std.proofs.Common.{slice_get, slice_index_or, length, map, max, sym, ap, ◌∙◌}
use Rattle.hume_streams.specs.Queues.{first_view, without_values}
use Rattle.net_costs.specs.Steps.{peaks}
use Rattle.phase_workers.specs.Engines.{EngineView, core_of, heap_peak_at, queue_at, stack_peak_at, state_of}
use Rattle.phase_workers.specs.inner.Begun.{begun_cell, begun_wire}
use Rattle.phase_workers.specs.inner.Whole.{heaps_of, opening_at, queues_of, stacks_of}
use Rattle.phase_workers.proofs.Indexes.{all_items}
use Rattle.phase_workers.proofs.Rounding.{by_paths, plan_is, few_items, even_times, queue_same, heap_more, stack_more, whole_after}
use Rattle.phase_workers.proofs.engine.Engine.round.Goals as goal

pub choose_workers-workers-requires-clause-plan : goal.choose_workers-workers-requires-clause-plan
choose_workers-workers-requires-clause-plan g c = (plan_is _ _ _ _ _ _ _ c.self.invariant, few_items _ _ _ _ _ _ _ c.self.invariant)

pub step_all-requires-clause-plan : goal.step_all-requires-clause-plan
step_all-requires-clause-plan g c κs within = plan_is _ _ _ _ _ _ _ c.self.invariant

pub begin_nodes-requires : goal.begin_nodes-requires
begin_nodes-requires g c = λ n cell at.
    let inside = c.self.inside in
    let whole = by_paths _ _ _ _ _ _ _ c.self.invariant c.choose_workers-workers.new.self c.choose_workers-workers.ensures.paths in
    let right = c.step_all.ensures.right (opening_at inside.core inside.seen.state inside.nodes.items) whole.opens whole.right in
    even_times inside.core inside.bare c.choose_workers-workers.new.self inside.span inside.seen.state inside.nodes.items inside.home.items whole c.args.steps c.step_all.new.nodes.items c.step_all.new.home.items c.step_all.ensures.place c.step_all.ensures.until
    c.step_all.ensures.from right c.step_all.ensures.wires n cell
    (sym (ap (λ ns. slice_get ns n) c.deref_mut.ensures.value) ∙ at)

pub invariant_of-self : goal.invariant_of-self
invariant_of-self g c =
    let inside = c.self.inside in
    let whole = by_paths _ _ _ _ _ _ _ c.self.invariant c.choose_workers-workers.new.self c.choose_workers-workers.ensures.paths in
    let right = c.step_all.ensures.right (opening_at inside.core inside.seen.state inside.nodes.items) whole.opens whole.right in
    let cells = all_items c.step_all.new.nodes.len c.begin_nodes.new.nodes c.step_all.new.nodes.items c.step_all.new.nodes.ok.0
    (c.begin_nodes.auto.nodes ∙ ap length c.deref_mut.ensures.value) ∙ c.begin_nodes.ensures ∙ ap (map begun_cell) c.deref_mut.ensures.value in
    let wires = all_items c.step_all.new.home.len c.begin_wires.new.home c.step_all.new.home.items c.step_all.new.home.ok.0
    (c.begin_wires.auto.home ∙ ap length c.deref_mut-2.ensures.value) ∙ c.begin_wires.ensures ∙ ap (map begun_wire) c.deref_mut-2.ensures.value in
    whole_after inside.core inside.bare c.choose_workers-workers.new.self inside.span inside.seen.state inside.nodes.items inside.home.items whole c.args.steps c.step_all.new.nodes.items c.step_all.new.home.items c.step_all.ensures.place c.step_all.ensures.until
    c.step_all.ensures.from right c.step_all.ensures.wires _ _ _
    c.then-self-inside.ensures cells wires

pub returns-clause-queues : goal.returns-clause-queues
returns-clause-queues g c = λ n.
    let inside = c.self.inside in
    let whole = by_paths _ _ _ _ _ _ _ c.self.invariant c.choose_workers-workers.new.self c.choose_workers-workers.ensures.paths in
    let right = c.step_all.ensures.right (opening_at inside.core inside.seen.state inside.nodes.items) whole.opens whole.right in
    let cells = all_items c.step_all.new.nodes.len c.begin_nodes.new.nodes c.step_all.new.nodes.items c.step_all.new.nodes.ok.0
    (c.begin_nodes.auto.nodes ∙ ap length c.deref_mut.ensures.value) ∙ c.begin_nodes.ensures ∙ ap (map begun_cell) c.deref_mut.ensures.value in
    ap (λ ns. without_values (slice_index_or (queues_of ns) n (first_view 0 0))) cells
    ∙ ap without_values (queue_same inside.core inside.bare c.choose_workers-workers.new.self inside.span inside.seen.state inside.nodes.items inside.home.items whole c.args.steps c.step_all.new.nodes.items c.step_all.new.home.items c.step_all.ensures.place c.step_all.ensures.until
    c.step_all.ensures.from right c.step_all.ensures.wires n)
    ∙ ap (λ (v : EngineView). queue_at v n) c.self.view_is

pub returns-clause-heap : goal.returns-clause-heap
returns-clause-heap g c = λ n.
    let inside = c.self.inside in
    let whole = by_paths _ _ _ _ _ _ _ c.self.invariant c.choose_workers-workers.new.self c.choose_workers-workers.ensures.paths in
    let right = c.step_all.ensures.right (opening_at inside.core inside.seen.state inside.nodes.items) whole.opens whole.right in
    let cells = all_items c.step_all.new.nodes.len c.begin_nodes.new.nodes c.step_all.new.nodes.items c.step_all.new.nodes.ok.0
    (c.begin_nodes.auto.nodes ∙ ap length c.deref_mut.ensures.value) ∙ c.begin_nodes.ensures ∙ ap (map begun_cell) c.deref_mut.ensures.value in
    ap (λ ns. slice_index_or (heaps_of ns) n 0) cells
    ∙ heap_more inside.core inside.bare c.choose_workers-workers.new.self inside.span inside.seen.state inside.nodes.items inside.home.items whole c.args.steps c.step_all.new.nodes.items c.step_all.new.home.items c.step_all.ensures.place c.step_all.ensures.until
    c.step_all.ensures.from right c.step_all.ensures.wires n
    ∙ ap (λ (v : EngineView). max (heap_peak_at v n) (peaks (core_of v) (state_of v) c.args.steps n).heap) c.self.view_is

pub returns-clause-stack : goal.returns-clause-stack
returns-clause-stack g c = λ n.
    let inside = c.self.inside in
    let whole = by_paths _ _ _ _ _ _ _ c.self.invariant c.choose_workers-workers.new.self c.choose_workers-workers.ensures.paths in
    let right = c.step_all.ensures.right (opening_at inside.core inside.seen.state inside.nodes.items) whole.opens whole.right in
    let cells = all_items c.step_all.new.nodes.len c.begin_nodes.new.nodes c.step_all.new.nodes.items c.step_all.new.nodes.ok.0
    (c.begin_nodes.auto.nodes ∙ ap length c.deref_mut.ensures.value) ∙ c.begin_nodes.ensures ∙ ap (map begun_cell) c.deref_mut.ensures.value in
    ap (λ ns. slice_index_or (stacks_of ns) n 0) cells
    ∙ stack_more inside.core inside.bare c.choose_workers-workers.new.self inside.span inside.seen.state inside.nodes.items inside.home.items whole c.args.steps c.step_all.new.nodes.items c.step_all.new.home.items c.step_all.ensures.place c.step_all.ensures.until
    c.step_all.ensures.from right c.step_all.ensures.wires n
    ∙ ap (λ (v : EngineView). max (stack_peak_at v n) (peaks (core_of v) (state_of v) c.args.steps n).stack) c.self.view_is
