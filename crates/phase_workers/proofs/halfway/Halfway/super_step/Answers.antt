use Rattle.std.proofs.Common.{◌≡◌, slice_get, slice_index_or, length, map, ap, sym, ◌∙◌, arith}
use Rattle.hume_net.specs.Lockstep.{up}
use Rattle.hume_streams.specs.Queues.{first_view, without_values}
use Rattle.phase_workers.specs.Engines.{EngineView, core_of, queue_at, state_of}
use Rattle.phase_workers.specs.inner.Begun.{begun_cell, begun_wire}
use Rattle.phase_workers.specs.inner.Whole.{opening_at, queues_of}
use Rattle.phase_workers.proofs.Halving.{next_state, queue_later, until_second}
use Rattle.phase_workers.proofs.Indexes.{all_items}
use Rattle.phase_workers.proofs.Rounding.{even_times, plan_is, queue_same, whole_after}
use Rattle.phase_workers.proofs.halfway.Halfway.super_step.Goals as goal

pub sweep_all-requires-clause-plan : goal.sweep_all-requires-clause-plan
sweep_all-requires-clause-plan c = plan_is _ _ _ _ _ _ _ c.self.invariant.whole

pub sweep_all-requires-clause-right : goal.sweep_all-requires-clause-right
sweep_all-requires-clause-right c =
    let inside = c.self.inside in
    let midst = c.self.invariant in
    (opening_at inside.core inside.seen.state midst.first_nodes, midst.whole.opens, midst.right, λ even. (let odd : 1 ≡ 0 = even in cc))

pub begin_nodes-requires : goal.begin_nodes-requires
begin_nodes-requires c = λ n cell at.
    let inside = c.self.inside in
    let midst = c.self.invariant in
    let done = c.sweep_all.ensures in
    let until = done.until 2 (omega arith) (until_second _ _ _ _ _ _ _ midst) in
    let right = done.right (opening_at inside.core inside.seen.state midst.first_nodes) midst.whole.opens midst.right in
    even_times inside.core inside.bare inside.paths inside.span inside.seen.state midst.first_nodes midst.first_home midst.whole 1 c.sweep_all.new.nodes.items c.sweep_all.new.home.items done.place until done.from right done.wires n cell
    (sym (ap (λ ns. slice_get ns n) c.deref_mut.ensures.value) ∙ at)

pub invariant_of-result : goal.invariant_of-result
invariant_of-result c =
    let inside = c.self.inside in
    let midst = c.self.invariant in
    let done = c.sweep_all.ensures in
    let until = done.until 2 (omega arith) (until_second _ _ _ _ _ _ _ midst) in
    let right = done.right (opening_at inside.core inside.seen.state midst.first_nodes) midst.whole.opens midst.right in
    let cells = all_items c.sweep_all.new.nodes.len c.begin_nodes.new.nodes c.sweep_all.new.nodes.items c.sweep_all.new.nodes.ok.0
    (c.begin_nodes.auto.nodes ∙ ap length c.deref_mut.ensures.value) ∙ c.begin_nodes.ensures ∙ ap (map begun_cell) c.deref_mut.ensures.value in
    let wires = all_items c.sweep_all.new.home.len c.begin_wires.new.home c.sweep_all.new.home.items c.sweep_all.new.home.ok.0
    (c.begin_wires.auto.home ∙ ap length c.deref_mut-2.ensures.value) ∙ c.begin_wires.ensures ∙ ap (map begun_wire) c.deref_mut-2.ensures.value in
    whole_after inside.core inside.bare inside.paths inside.span inside.seen.state midst.first_nodes midst.first_home midst.whole 1 c.sweep_all.new.nodes.items c.sweep_all.new.home.items done.place until done.from right done.wires _ _ _
    c.then-seen.ensures cells wires

pub returns-clause-queues : goal.returns-clause-queues
returns-clause-queues c = λ n.
    let inside = c.self.inside in
    let midst = c.self.invariant in
    let done = c.sweep_all.ensures in
    let until = done.until 2 (omega arith) (until_second _ _ _ _ _ _ _ midst) in
    let right = done.right (opening_at inside.core inside.seen.state midst.first_nodes) midst.whole.opens midst.right in
    let cells = all_items c.sweep_all.new.nodes.len c.begin_nodes.new.nodes c.sweep_all.new.nodes.items c.sweep_all.new.nodes.ok.0
    (c.begin_nodes.auto.nodes ∙ ap length c.deref_mut.ensures.value) ∙ c.begin_nodes.ensures ∙ ap (map begun_cell) c.deref_mut.ensures.value in
    ap (λ ns. without_values (slice_index_or (queues_of ns) n (first_view 0 0))) cells
    ∙ ap without_values (queue_same inside.core inside.bare inside.paths inside.span inside.seen.state midst.first_nodes midst.first_home midst.whole 1 c.sweep_all.new.nodes.items c.sweep_all.new.home.items done.place until done.from right done.wires n)
    ∙ sym (ap without_values (queue_later inside.core inside.bare inside.paths inside.span inside.seen.state midst.first_nodes midst.first_home midst.whole inside.nodes.items inside.home.items midst.place midst.right n))
    ∙ ap (λ (v : EngineView). queue_at v n) c.self.view_is

pub returns-clause-state : goal.returns-clause-state
returns-clause-state c =
    c.then-seen.ensures ∙ next_state c.self.inside.core c.self.inside.seen.state ∙ ap (λ (v : EngineView). up (core_of v) (state_of v)) c.self.view_is
