use Rattle.std.proofs.Common.{◌≤◌, sym, ap, ◌∙◌, subst, slice_index_or, slice_set}
use Rattle.hume_net.specs.Nodes.{IsInputStream}
use Rattle.hume_streams.proofs.places_lemmas.StepsAt.{ends_of}
use Rattle.box_step.specs.declared.nodes.cell.BoxCell.{BoxCell}
use Rattle.box_step.specs.nodes.Lends.{queue_in, with_queue}
use Rattle.phase_workers.specs.Engines.{EngineView, core_of, heap_peak_at, span_of, stack_peak_at}
use Rattle.phase_workers.specs.inner.Whole.{IsWhole}
use Rattle.phase_workers.proofs.AtRest.{queue_there}
use Rattle.phase_workers.proofs.Indexes.{index_at}
use Rattle.phase_workers.proofs.NodeFilled.{fills_node, not_failed}
use Rattle.phase_workers.proofs.FilledCells.{filled_whole}
use Rattle.phase_workers.proofs.QueueCells.{heaps_kept, stacks_kept}
use Rattle.phase_workers.proofs.engine.Engine.fill.Goals as goal

pub fill_cell-requires-clause-queue : goal.fill_cell-requires-clause-queue
fill_cell-requires-clause-queue g c =
    let inside = c.self.inside in
    let n = c.args.node in
    let is = subst (λ (v : EngineView). IsInputStream (core_of v) n) (sym c.self.view_is) c.requires.input in
    let its = queue_there _ _ _ _ _ _ _ c.self.invariant n is in
    let cell = index_at inside.nodes.items n its.0 c.index_mut-cell.result.now its.1 c.index_mut-cell.ensures.value in
    let enough = subst (λ (v : EngineView). c.args.want ≤ span_of v) (sym c.self.view_is) c.requires.span in
    (its.2, ap (λ (k : BoxCell). queue_in k.kind) cell ∙ its.3, its.5, subst (λ s. c.args.want ≤ s) its.6 enough)

pub invariant_of-self : goal.invariant_of-self
invariant_of-self g c =
    let inside = c.self.inside in
    let whole = c.self.invariant in
    let n = c.args.node in
    let is = subst (λ (v : EngineView). IsInputStream (core_of v) n) (sym c.self.view_is) c.requires.input in
    let its = queue_there _ _ _ _ _ _ _ whole n is in
    let cell = index_at inside.nodes.items n its.0 c.index_mut-cell.result.now its.1 c.index_mut-cell.ensures.value in
    let done = c.fill_cell.ensures.filled in
    let had = sym (ap (λ (k : BoxCell). queue_in k.kind) cell) ∙ done.had in
    let new_is = done.cell ∙ ap (λ (k : BoxCell). record k { kind = with_queue k.kind done.later }) cell in
    let ends = ends_of _ _ _ _ done.step in
    subst (λ s. IsWhole inside.core inside.bare inside.paths inside.span s (slice_set inside.nodes.items n c.fill_cell.new.cell) inside.home.items) (sym done.state)
    (filled_whole _ _ _ _ _ _ _ whole n is its.0 c.fill_cell.new.cell its.1 done.queue done.later had new_is c.args.want ends.before ends.after
    c.fill_cell.result ends.steps)

pub returns-clause-peaks : goal.returns-clause-peaks
returns-clause-peaks g c =
    let inside = c.self.inside in
    let whole = c.self.invariant in
    let n = c.args.node in
    let is = subst (λ (v : EngineView). IsInputStream (core_of v) n) (sym c.self.view_is) c.requires.input in
    let its = queue_there _ _ _ _ _ _ _ whole n is in
    let cell = index_at inside.nodes.items n its.0 c.index_mut-cell.result.now its.1 c.index_mut-cell.ensures.value in
    let done = c.fill_cell.ensures.filled in
    let had = sym (ap (λ (k : BoxCell). queue_in k.kind) cell) ∙ done.had in
    let new_is = done.cell ∙ ap (λ (k : BoxCell). record k { kind = with_queue k.kind done.later }) cell in
    let ends = ends_of _ _ _ _ done.step in
    record {
      heap = λ m. ap (λ hs. slice_index_or hs m 0) (heaps_kept _ _ _ _ _ _ _ whole n is its.0 c.fill_cell.new.cell its.1 done.queue done.later had new_is)
          ∙ ap (λ (v : EngineView). heap_peak_at v m) c.self.view_is;
      stack = λ m. ap (λ hs. slice_index_or hs m 0) (stacks_kept _ _ _ _ _ _ _ whole n is its.0 c.fill_cell.new.cell its.1 done.queue done.later had new_is)
          ∙ ap (λ (v : EngineView). stack_peak_at v m) c.self.view_is;
    }

pub returns-clause-fills : goal.returns-clause-fills
returns-clause-fills g c = λ name place.
    let inside = c.self.inside in
    let whole = c.self.invariant in
    let n = c.args.node in
    let is = subst (λ (v : EngineView). IsInputStream (core_of v) n) (sym c.self.view_is) c.requires.input in
    let its = queue_there _ _ _ _ _ _ _ whole n is in
    let cell = index_at inside.nodes.items n its.0 c.index_mut-cell.result.now its.1 c.index_mut-cell.ensures.value in
    let done = c.fill_cell.ensures.filled in
    let had = sym (ap (λ (k : BoxCell). queue_in k.kind) cell) ∙ done.had in
    let new_is = done.cell ∙ ap (λ (k : BoxCell). record k { kind = with_queue k.kind done.later }) cell in
    let ends = ends_of _ _ _ _ done.step in
    rw (← c.self.view_is)
    (fills_node _ _ _ _ _ _ _ whole n is its.0 c.fill_cell.new.cell its.1 done.queue done.later had new_is c.args.want name _ _ c.fill_cell.result
    (done.fills name place) c.fill_cell.new.seen.state done.state)

pub returns-clause-roomy : goal.returns-clause-roomy
returns-clause-roomy g c = λ roomy. not_failed c.fill_cell.result (c.fill_cell.ensures.roomy roomy)
