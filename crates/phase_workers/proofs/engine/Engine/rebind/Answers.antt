use Rattle.std.proofs.Common.{sym, ap, ◌∙◌, subst, slice_index_or}
use Rattle.hume_base.specs.Sizes.{size_of}
use Rattle.hume_net.specs.Nodes.{IsInputStream}
use Rattle.hume_streams.specs.Queues.{first_view, rebound, without_values}
use Rattle.hume_streams.proofs.Givings.{first_right_as}
use Rattle.box_step.specs.declared.nodes.cell.BoxCell.{BoxCell}
use Rattle.box_step.specs.nodes.Lends.{queue_in}
use Rattle.phase_workers.specs.Engines.{EngineView, core_of, heap_peak_at, queue_at, span_of, stack_peak_at}
use Rattle.phase_workers.specs.StreamTypes.{type_at}
use Rattle.phase_workers.specs.inner.Filling.{HasQueue}
use Rattle.phase_workers.proofs.AtRest.{queue_there}
use Rattle.phase_workers.proofs.Indexes.{index_at}
use Rattle.phase_workers.proofs.QueueCells.{heaps_kept, rebound_elsewhere, rebound_there, rebound_whole, stacks_kept}
use Rattle.phase_workers.proofs.engine.Engine.rebind.Goals as goal

pub rebind_cell-requires : goal.rebind_cell-requires
rebind_cell-requires c =
    let is = subst (λ (v : EngineView). IsInputStream (core_of v) c.args.node) (sym c.self.view_is) c.requires in
    let its = queue_there _ _ _ _ _ _ _ c.self.invariant c.args.node is in
    let cell = index_at c.self.inside.nodes.items c.args.node its.0 c.index_mut.result.now its.1 c.index_mut.ensures.value in
    (its.2, ap (λ (k : BoxCell). queue_in k.kind) cell ∙ its.3)

pub invariant_of-self : goal.invariant_of-self
invariant_of-self c =
    let inside = c.self.inside in
    let whole = c.self.invariant in
    let n = c.args.node in
    let is = subst (λ (v : EngineView). IsInputStream (core_of v) n) (sym c.self.view_is) c.requires in
    let its = queue_there _ _ _ _ _ _ _ whole n is in
    let cell = index_at inside.nodes.items n its.0 c.index_mut.result.now its.1 c.index_mut.ensures.value in
    let done = subst (λ k. HasQueue k c.rebind_cell.new.cell rebound) cell c.rebind_cell.ensures in
    rebound_whole _ _ _ _ _ _ _ whole n is its.0 c.rebind_cell.new.cell its.1 done.queue done.later done.had done.cell done.changed

pub returns-clause-peaks : goal.returns-clause-peaks
returns-clause-peaks c =
    let inside = c.self.inside in
    let whole = c.self.invariant in
    let n = c.args.node in
    let is = subst (λ (v : EngineView). IsInputStream (core_of v) n) (sym c.self.view_is) c.requires in
    let its = queue_there _ _ _ _ _ _ _ whole n is in
    let cell = index_at inside.nodes.items n its.0 c.index_mut.result.now its.1 c.index_mut.ensures.value in
    let done = subst (λ k. HasQueue k c.rebind_cell.new.cell rebound) cell c.rebind_cell.ensures in
    record {
      heap = λ m. ap (λ hs. slice_index_or hs m 0) (heaps_kept _ _ _ _ _ _ _ whole n is its.0 c.rebind_cell.new.cell its.1 done.queue done.later done.had
          done.cell)
          ∙ ap (λ (v : EngineView). heap_peak_at v m) c.self.view_is;
      stack = λ m. ap (λ hs. slice_index_or hs m 0) (stacks_kept _ _ _ _ _ _ _ whole n is its.0 c.rebind_cell.new.cell its.1 done.queue done.later done.had
          done.cell)
          ∙ ap (λ (v : EngineView). stack_peak_at v m) c.self.view_is;
    }

pub returns-clause-begun : goal.returns-clause-begun
returns-clause-begun c =
    let inside = c.self.inside in
    let whole = c.self.invariant in
    let n = c.args.node in
    let is = subst (λ (v : EngineView). IsInputStream (core_of v) n) (sym c.self.view_is) c.requires in
    let its = queue_there _ _ _ _ _ _ _ whole n is in
    let cell = index_at inside.nodes.items n its.0 c.index_mut.result.now its.1 c.index_mut.ensures.value in
    let done = subst (λ k. HasQueue k c.rebind_cell.new.cell rebound) cell c.rebind_cell.ensures in
    rebound_there _ _ _ _ _ _ _ whole n is its.0 c.rebind_cell.new.cell its.1 done.queue done.later done.had done.cell done.changed
    ∙ ap (λ (v : EngineView). first_view (size_of (core_of v).types (type_at (core_of v) n)) (span_of v)) c.self.view_is

pub returns-clause-right : goal.returns-clause-right
returns-clause-right c = λ text. first_right_as _ _ _ _ _ text (returns-clause-begun c)

pub returns-clause-others : goal.returns-clause-others
returns-clause-others c = λ other apart.
    let inside = c.self.inside in
    let whole = c.self.invariant in
    let n = c.args.node in
    let is = subst (λ (v : EngineView). IsInputStream (core_of v) n) (sym c.self.view_is) c.requires in
    let its = queue_there _ _ _ _ _ _ _ whole n is in
    let cell = index_at inside.nodes.items n its.0 c.index_mut.result.now its.1 c.index_mut.ensures.value in
    let done = subst (λ k. HasQueue k c.rebind_cell.new.cell rebound) cell c.rebind_cell.ensures in
    ap without_values (rebound_elsewhere _ _ _ _ _ _ _ whole n is its.0 c.rebind_cell.new.cell its.1 done.queue done.later done.had done.cell done.changed
    other apart)
    ∙ ap (λ (v : EngineView). queue_at v other) c.self.view_is
