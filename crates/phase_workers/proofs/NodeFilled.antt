-- What the fill of a queue is to the engine.
use Rattle.std.proofs.Common.{◌≡◌, ℕ, true, List, [], ◌++◌, Option, None, Some, Result, Ok, Err, slice_get, slice_set, refl, ap, sym, ◌∙◌, subst, append_assoc}
use Rattle.std.specs.Prelude.{IsErrOf}
use Rattle.std.specs.Io.KnownBytes.{IsAtEnd}
use Rattle.hume_base.specs.declared.types.Value.{Value}
use Rattle.hume_model.specs.declared.core_tree.Core.{Core}
use Rattle.hume_net.specs.declared.state.State.{State}
use Rattle.hume_net.specs.Nodes.{IsInputStream}
use Rattle.hume_ports.specs.Port.{PortView}
use Rattle.hume_streams.specs.declared.queue.FillError.{FillError}
use Rattle.hume_streams.specs.declared.queue.FillError.TheVariants.{BadValue, Failed}
use Rattle.hume_streams.specs.declared.queue.InQueue.{InQueue}
use Rattle.hume_streams.specs.Queues.{QueueView, IsQueueOf, queue_view, without_values}
use Rattle.hume_streams.specs.places.FillsOfPorts.{FillsFrom, NoReadFails}
use Rattle.hume_streams.proofs.places_lemmas.FillsInLists.{of_first-port}
use Rattle.wire_cells.specs.Cells.{CellView}
use Rattle.box_step.specs.declared.nodes.cell.BoxCell.{BoxCell}
use Rattle.box_step.specs.nodes.Lends.{queue_in, with_queue}
use Rattle.phase_workers.specs.declared.paths.Paths.{Paths}
use Rattle.phase_workers.specs.Engines.{EngineView, IsRight, core_of, queue_at}
use Rattle.phase_workers.specs.NodeFills.{FillsNode}
use Rattle.phase_workers.specs.RightQueues.{IsRightBehind}
use Rattle.phase_workers.specs.StreamTypes.{type_at}
use Rattle.phase_workers.specs.inner.Whole.{IsWhole, engine_view}
use Rattle.phase_workers.proofs.FilledCells.{ends_fill, gained_few, next, next_is_fed, parts_kept}
use Rattle.phase_workers.proofs.QueueCells.{is_queue, queues_elsewhere, was_queue}

pub not_failed : (result : Result (Unit {0}) FillError) → NoReadFails result → IsErrOf result Failed → ⊥
not_failed (Ok _) none is = cc
not_failed (Err (BadValue line)) none is = cc
not_failed (Err Failed) none is = absurd none

module _ (core bare : Core) (paths : Paths) (span : ℕ) (state : State) (nodes : List BoxCell) (home : List (Option CellView))
    (whole : IsWhole core bare paths span state nodes home) (node : ℕ) (is : IsInputStream core node) (cell new : BoxCell)
    (at : slice_get nodes node ≡ Some cell) (queue later : InQueue) (had : queue_in cell.kind ≡ Some queue)
    (new_is : new ≡ record cell { kind = with_queue cell.kind later }) (want : ℕ) (name : List ℕ) (olds news : List PortView)
    (result : Result (Unit {0}) FillError)
    (from : FillsFrom core.types (type_at core node) want (queue_view queue) (queue_view later) name olds news result) (s : State)
    (state_is : s ≡ next core bare paths span state nodes home whole node is cell new at queue later had new_is) where
  abbrev old_engine : EngineView
  old_engine = engine_view core span state nodes

  abbrev engine : EngineView
  engine = engine_view core span s (slice_set nodes node new)

  was : queue_at old_engine node ≡ without_values (queue_view queue)
  was = ap without_values (was_queue core bare paths span state nodes home whole node is cell new at queue later had new_is)

  now : queue_at engine node ≡ without_values (queue_view later)
  now = ap without_values (is_queue core bare paths span state nodes home whole node is cell new at queue later had new_is)

  goes_on : (text : List ℕ) (read : List Value) (rest : List ℕ) → ((queue_at engine node).ended ≡ true → rest ≡ [])
      → IsQueueOf core.types (type_at core node) (queue_at old_engine node) text read (from.fills.bytes ++ rest)
      → IsQueueOf core.types (type_at core node) (queue_at engine node) text (read ++ from.fills.gained) rest
  goes_on text read rest over q =
      subst (λ v. IsQueueOf core.types (type_at core node) v text (read ++ from.fills.gained) rest) (sym now)
      (from.fills.goes_on text read rest (λ ended. over (ap (λ (v : QueueView). v.ended) now ∙ ended))
      (subst (λ v. IsQueueOf core.types (type_at core node) v text read (from.fills.bytes ++ rest)) was q))

  pub fills_node : FillsNode want old_engine engine node name olds news result
  fills_node = record {
    bytes = from.fills.bytes;
    values = from.fills.gained;
    reads = from.reads;
    state = state_is ∙ next_is_fed core bare paths span state nodes home whole node is cell new at queue later had new_is want
        from.before from.after result from.fills;
    bound = gained_few core bare paths span state nodes home whole node is cell new at queue later had new_is want
        from.before from.after result from.fills;
    others = λ other apart. ap without_values (queues_elsewhere core bare paths span state nodes home whole node is cell new at queue later had
        new_is (next core bare paths span state nodes home whole node is cell new at queue later had new_is) refl
        (parts_kept core bare paths span state nodes home whole node is cell new at queue later had new_is) other apart);
    stays = λ ended.
        let b = from.fills.end.before (sym (ap (λ (q : QueueView). q.ended) was) ∙ ended) in
        (b.0, ap (λ (q : QueueView). q.ended) now ∙ b.1);
    ended = λ before after.
        subst IsAtEnd (sym (of_first-port None (λ (port : PortView). port.left) name news from.after from.is_first))
        (from.fills.end.now (sym (ap (λ (q : QueueView). q.ended) was) ∙ before) (sym (ap (λ (q : QueueView). q.ended) now) ∙ after));
    goes_on = goes_on;
    ends = ends_fill core bare paths span state nodes home whole node is cell new at queue later had new_is want
        from.before from.after result from.fills engine refl state_is now result from.fills.ends;
  }

-- an engine stays right behind a fill
pub stays_right : (want : ℕ) (old new : EngineView) (node : ℕ) (name : List ℕ) (olds news : List PortView) (result : Result (Unit {0}) FillError)
    → (f : FillsNode want old new node name olds news result) → core_of new ≡ core_of old → (bytes : List ℕ) (read : List Value)
    → IsRight old node bytes read → IsRight new node (bytes ++ f.bytes) (read ++ f.values)
stays_right want old new node name olds news result f c bytes read r =
    let queue = queue_at new node in
    let types = (core_of old).types in
    let ty = type_at (core_of old) node in
    let right : IsRightBehind types ty queue (bytes ++ f.bytes) (read ++ f.values) = record {
      right = λ rest ended.
          let earlier : (queue_at old node).ended ≡ true → f.bytes ++ rest ≡ [] = λ was. let s = f.stays was in ap (λ bs. bs ++ rest) s.0 ∙ ended s.1 in
          f.goes_on ((bytes ++ f.bytes) ++ rest) read rest ended
          (subst (λ text. IsQueueOf types ty (queue_at old node) text read (f.bytes ++ rest)) (sym (append_assoc bytes f.bytes rest))
          (r.right (f.bytes ++ rest) earlier));
    } in
    subst (λ x. IsRightBehind x.types (type_at x node) queue (bytes ++ f.bytes) (read ++ f.values)) (sym c) right
