use Rattle.std.proofs.Common.{[], sym, ap, ◌∙◌, subst, slice_index_or, slice_set, refl, map}
use Rattle.std.proofs.lemmas.Option.{slice_get_within}
use Rattle.hume_base.specs.Flat.{flat}
use Rattle.hume_net.specs.Nodes.{IsOutputStream}
use Rattle.hume_streams.specs.Logs.{LogView}
use Rattle.hume_streams.specs.Queues.{first_view, without_values}
use Rattle.box_step.specs.declared.nodes.cell.BoxCell.{BoxCell}
use Rattle.box_step.specs.nodes.Lends.{log_in}
use Rattle.phase_workers.specs.Engines.{EngineView, core_of, heap_peak_at, queue_at, stack_peak_at}
use Rattle.phase_workers.specs.StreamTypes.{type_at}
use Rattle.phase_workers.specs.inner.Filling.{HasLog}
use Rattle.phase_workers.specs.inner.Whole.{IsWhole}
use Rattle.phase_workers.proofs.AtRest.{log_there}
use Rattle.phase_workers.proofs.Indexes.{index_at}
use Rattle.phase_workers.proofs.LogCells.{log_whole, queues_kept, heaps_kept, stacks_kept, cleared, cleared_fits, cleared_here, cleared_other, cleared_typed}
use Rattle.phase_workers.proofs.Rounding.{node_of_output}
use Rattle.phase_workers.proofs.engine.Engine.clear.Goals as goal

pub clear_cell-requires : goal.clear_cell-requires
clear_cell-requires c =
    let is = subst (λ (v : EngineView). IsOutputStream (core_of v) c.args.node) (sym c.self.view_is) c.requires in
    let its = log_there _ _ _ _ _ _ _ c.self.invariant c.args.node is in
    let cell = index_at c.self.inside.nodes.items c.args.node its.0 c.index_mut.result.now its.1 c.index_mut.ensures.value in
    (its.2, ap (λ (k : BoxCell). log_in k.kind) cell ∙ its.3)

pub invariant_of-self : goal.invariant_of-self
invariant_of-self c =
    let inside = c.self.inside in
    let whole = c.self.invariant in
    let n = c.args.node in
    let is = subst (λ (v : EngineView). IsOutputStream (core_of v) n) (sym c.self.view_is) c.requires in
    let its = log_there _ _ _ _ _ _ _ whole n is in
    let cell = index_at inside.nodes.items n its.0 c.index_mut.result.now its.1 c.index_mut.ensures.value in
    let done = subst (λ k. HasLog k c.clear_cell.new.cell (λ (log : LogView). record log { values = [] })) cell c.clear_cell.ensures in
    let node = node_of_output inside.core n is in
    let within = slice_get_within inside.core.nodes n _ node.1 in
    let none = cleared_here inside.core n inside.seen.state within whole.fits in
    subst (λ s. IsWhole inside.core inside.bare inside.paths inside.span s (slice_set inside.nodes.items n c.clear_cell.new.cell) inside.home.items) (sym c.then-self-inside.ensures)
    (log_whole _ _ _ _ _ _ _ whole n is its.0 c.clear_cell.new.cell its.1 done.log done.later done.had done.cell (cleared n inside.seen.state) refl
    (cleared_other inside.core n inside.seen.state within whole.fits)
    (ap (λ (l : LogView). l.values) done.changed ∙ sym (ap (map (flat inside.core.types (type_at inside.core n))) none))
    (ap (λ (l : LogView). l.width) done.changed) (ap (λ (l : LogView). l.span) done.changed)
    (cleared_typed inside.core n inside.seen.state within whole.fits whole.opens.typed)
    (cleared_fits inside.core n inside.seen.state within whole.fits))

pub returns-clause-queues : goal.returns-clause-queues
returns-clause-queues c = λ m.
    let inside = c.self.inside in
    let whole = c.self.invariant in
    let n = c.args.node in
    let is = subst (λ (v : EngineView). IsOutputStream (core_of v) n) (sym c.self.view_is) c.requires in
    let its = log_there _ _ _ _ _ _ _ whole n is in
    let cell = index_at inside.nodes.items n its.0 c.index_mut.result.now its.1 c.index_mut.ensures.value in
    let done = subst (λ k. HasLog k c.clear_cell.new.cell (λ (log : LogView). record log { values = [] })) cell c.clear_cell.ensures in
    ap (λ qs. without_values (slice_index_or qs m (first_view 0 0))) (queues_kept _ _ _ _ _ _ _ whole n is its.0 c.clear_cell.new.cell its.1 done.log done.later done.had
    done.cell)
    ∙ ap (λ (v : EngineView). queue_at v m) c.self.view_is

pub returns-clause-peaks : goal.returns-clause-peaks
returns-clause-peaks c =
    let inside = c.self.inside in
    let whole = c.self.invariant in
    let n = c.args.node in
    let is = subst (λ (v : EngineView). IsOutputStream (core_of v) n) (sym c.self.view_is) c.requires in
    let its = log_there _ _ _ _ _ _ _ whole n is in
    let cell = index_at inside.nodes.items n its.0 c.index_mut.result.now its.1 c.index_mut.ensures.value in
    let done = subst (λ k. HasLog k c.clear_cell.new.cell (λ (log : LogView). record log { values = [] })) cell c.clear_cell.ensures in
    record {
      heap = λ m. ap (λ hs. slice_index_or hs m 0) (heaps_kept _ _ _ _ _ _ _ whole n is its.0 c.clear_cell.new.cell its.1 done.log done.later done.had
          done.cell)
          ∙ ap (λ (v : EngineView). heap_peak_at v m) c.self.view_is;
      stack = λ m. ap (λ hs. slice_index_or hs m 0) (stacks_kept _ _ _ _ _ _ _ whole n is its.0 c.clear_cell.new.cell its.1 done.log done.later done.had
          done.cell)
          ∙ ap (λ (v : EngineView). stack_peak_at v m) c.self.view_is;
    }
