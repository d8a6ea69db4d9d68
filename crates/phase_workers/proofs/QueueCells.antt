-- An engine of which an input stream has another queue.
use Rattle.std.proofs.Common.{◌≡◌, ℕ, List, map, Option, Some, slice_get, slice_set, slice_index_or, refl, ap, sym, ◌∙◌, subst}
use Rattle.std.proofs.lemmas.Option.{slice_get_within}
use Rattle.hume_base.specs.Flat.{flat}
use Rattle.hume_base.specs.Sizes.{size_of}
use Rattle.hume_base.specs.declared.types.Ty.{Ty}
use Rattle.hume_base.specs.declared.types.Types.{Types}
use Rattle.hume_model.specs.declared.core_tree.NodeC.TheVariants.{To}
use Rattle.hume_model.specs.declared.core_tree.Core.{Core}
use Rattle.hume_net.specs.declared.state.Part.{Part}
use Rattle.hume_net.specs.declared.state.State.{State}
use Rattle.hume_net.specs.Lockstep.{node_at}
use Rattle.hume_net.specs.Nodes.{IsInput, IsInputStream}
use Rattle.hume_net.specs.Parts.{IsStateOf}
use Rattle.hume_net.specs.Sides.{part_of}
use Rattle.hume_net.specs.StateTyping.{IsTypedState}
use Rattle.hume_streams.specs.declared.queue.InQueue.{InQueue}
use Rattle.hume_streams.specs.Queues.{QueueView, queue_view, first_view, rebound, without_values}
use Rattle.wire_cells.specs.Cells.{CellView}
use Rattle.box_step.specs.declared.nodes.cell.Kind.{Kind}
use Rattle.box_step.specs.declared.nodes.cell.Kind.TheVariants.{Coded, Queued, Logged}
use Rattle.box_step.specs.declared.nodes.cell.BoxCell.{BoxCell}
use Rattle.box_step.specs.nodes.Lends.{queue_in, with_queue}
use Rattle.box_step.specs.nodes.Openings.{Opening}
use Rattle.box_step.specs.nodes.Right.{IsRightNode, heap_peak_of, stack_peak_of}
use Rattle.box_step.specs.nodes.Sides.{brought_type}
use Rattle.phase_workers.specs.declared.paths.Paths.{Paths}
use Rattle.phase_workers.specs.StreamTypes.{type_at}
use Rattle.phase_workers.specs.inner.Whole.{IsWhole, IsQueueFor, queue_without, queues_of, heaps_of, stacks_of, opening_at}
use Rattle.phase_workers.proofs.AtRest.{brought_is, part_at_first, queue_there}
use Rattle.phase_workers.proofs.CellsSeen.{seen_at}
use Rattle.phase_workers.proofs.Indexes.{get_set, map_set}
use Rattle.phase_workers.proofs.OneCell.{one_whole, queue_elsewhere}
use Rattle.phase_workers.proofs.Rounding.{right_cell}

queue_in_with : (kind : Kind) (queue later : InQueue) → queue_in kind ≡ Some queue → queue_in (with_queue kind later) ≡ Some later
queue_in_with (Coded box) queue later had = cc
queue_in_with (Queued old) queue later had = refl
queue_in_with (Logged log) queue later had = cc

same_heap : (kind : Kind) (later : InQueue) → heap_peak_of (with_queue kind later) ≡ heap_peak_of kind
same_heap (Coded box) later = refl
same_heap (Queued old) later = refl
same_heap (Logged log) later = refl

same_stack : (kind : Kind) (later : InQueue) → stack_peak_of (with_queue kind later) ≡ stack_peak_of kind
same_stack (Coded box) later = refl
same_stack (Queued old) later = refl
same_stack (Logged log) later = refl

-- a queue with the values to come from its stream is right
right_queue : (before opening : Opening) (n : ℕ) (kind : Kind) (queue later : InQueue) → opening.core ≡ before.core → queue_in kind ≡ Some queue
    → IsRightNode before n 0 kind
    → (queue_view later).values ≡ map (flat opening.core.types (brought_type opening.core n)) (node_at opening.core opening.state n 0).coming
    → queue_without (Some later) ≡ opening.queues n → IsRightNode opening n 0 (with_queue kind later)
right_queue before opening n (Coded box) queue later same had right values rest = cc
right_queue before opening n (Logged log) queue later same had right values rest = cc
right_queue before opening n (Queued old) queue later same had right values rest = record {
  stream = right.stream;
  there = ap (λ (c : Core). slice_get c.nodes n) same ∙ right.there;
  values = values;
  rest = rest;
}

module _ (core bare : Core) (paths : Paths) (span : ℕ) (state : State) (nodes : List BoxCell) (home : List (Option CellView))
    (whole : IsWhole core bare paths span state nodes home) (node : ℕ) (is : IsInputStream core node) (cell new : BoxCell)
    (at : slice_get nodes node ≡ Some cell) (queue later : InQueue) (had : queue_in cell.kind ≡ Some queue)
    (new_is : new ≡ record cell { kind = with_queue cell.kind later }) where
  abbrev types : Types
  types = core.types

  abbrev ty : Ty
  ty = type_at core node

  abbrev cells : List BoxCell
  cells = slice_set nodes node new

  new_kind : new.kind ≡ with_queue cell.kind later
  new_kind = ap (λ (c : BoxCell). c.kind) new_is

  here : slice_get cells node ≡ Some new
  here = get_set nodes node new (slice_get_within nodes node cell at)

  queue_is : queue_in new.kind ≡ Some later
  queue_is = ap queue_in new_kind ∙ queue_in_with cell.kind queue later had

  pub heaps_kept : heaps_of cells ≡ heaps_of nodes
  heaps_kept = map_set (λ (c : BoxCell). heap_peak_of c.kind) nodes node new cell at (ap heap_peak_of new_kind ∙ same_heap cell.kind later)

  pub stacks_kept : stacks_of cells ≡ stacks_of nodes
  stacks_kept = map_set (λ (c : BoxCell). stack_peak_of c.kind) nodes node new cell at (ap stack_peak_of new_kind ∙ same_stack cell.kind later)

  -- the queue was seen so, and held the values to come

  pub was_queue : slice_index_or (queues_of nodes) node (first_view 0 0) ≡ without_values (queue_view queue)
  was_queue = (seen_at nodes node cell at).2 ∙ ap queue_without had

  pub is_queue : slice_index_or (queues_of cells) node (first_view 0 0) ≡ without_values (queue_view later)
  is_queue = (seen_at cells node new here).2 ∙ ap queue_without queue_is

  pub queue_holds : (queue_view queue).values ≡ map (flat types ty) (part_of state node).coming
  queue_holds =
      let its = queue_there core bare paths span state nodes home whole node is in
      let one : its.0 ≡ cell = (let both : Some its.0 ≡ Some cell = sym its.1 ∙ at in cc) in
      let same : its.2 ≡ queue = (let both : Some its.2 ≡ Some queue = sym its.3 ∙ ap (λ (c : BoxCell). queue_in c.kind) one ∙ had in cc) in
      sym (ap (λ q. (queue_view q).values) same) ∙ its.4

  abbrev kept : IsQueueFor core span node (slice_index_or (queues_of nodes) node (first_view 0 0))
  kept = whole.queues node is

  -- the queues of other streams are as they were
  pub queues_elsewhere : (next : State) → next.wires ≡ state.wires → ((m : ℕ) → (m ≡ node → ⊥) → part_of next m ≡ part_of state m)
      → (other : ℕ) → (other ≡ node → ⊥)
      → slice_index_or (queues_of cells) other (first_view 0 0) ≡ slice_index_or (queues_of nodes) other (first_view 0 0)
  queues_elsewhere next wires parts =
      queue_elsewhere core bare paths span state nodes home whole node cell new at (ap (λ (c : BoxCell). c.number) new_is)
      (ap (λ (c : BoxCell). c.time) new_is) next wires parts

  module _ (next : State) (wires : next.wires ≡ state.wires) (parts : (m : ℕ) → (m ≡ node → ⊥) → part_of next m ≡ part_of state m)
      (values : (queue_view later).values ≡ map (flat types ty) (part_of next node).coming)
      (width : (queue_view later).width ≡ (queue_view queue).width) (span_is : (queue_view later).span ≡ (queue_view queue).span)
      (typed : IsTypedState core next) (fits : IsStateOf core next) where
    right : IsRightNode (opening_at core next cells) node 0 new.kind
    right =
        let all = values ∙ ap (λ t. map (flat types t) (part_of next node).coming) (sym (brought_is core whole.runnable node is))
        ∙ ap (λ (p : Part). map (flat types (brought_type core node)) p.coming) (sym (part_at_first core next node)) in
        subst (IsRightNode (opening_at core next cells) node 0) (sym new_kind)
        (right_queue (opening_at core state nodes) (opening_at core next cells) node cell.kind queue later refl had
        (right_cell core bare paths span state nodes home whole node cell at) all (sym is_queue))

    next_queue : IsQueueFor core span node (queue_without (queue_in new.kind))
    next_queue = subst (λ o. IsQueueFor core span node (queue_without o)) (sym queue_is) (record {
      width = width ∙ sym (ap (λ (q : QueueView). q.width) was_queue) ∙ kept.width;
      span_is = span_is ∙ sym (ap (λ (q : QueueView). q.span) was_queue) ∙ kept.span_is;
    })

    no_output : {stream : _} → slice_get core.nodes node ≡ Some (To stream) → ⊥
    no_output there = subst IsInput there is

    pub queue_whole : IsWhole core bare paths span next cells home
    queue_whole =
        one_whole core bare paths span state nodes home whole node cell new at (ap (λ (c : BoxCell). c.number) new_is)
        (ap (λ (c : BoxCell). c.time) new_is) next wires parts right typed fits (λ input. next_queue) (λ stream there. absurd (no_output there))

  -- a queue that goes on with another port
  module _ (changed : queue_view later ≡ rebound (queue_view queue)) where
    pub rebound_whole : IsWhole core bare paths span state cells home
    rebound_whole =
        queue_whole state refl (λ m apart. refl) (ap (λ (q : QueueView). q.values) changed ∙ queue_holds) (ap (λ (q : QueueView). q.width) changed)
        (ap (λ (q : QueueView). q.span) changed) whole.opens.typed whole.fits

    pub rebound_there : without_values (slice_index_or (queues_of cells) node (first_view 0 0)) ≡ first_view (size_of types ty) span
    rebound_there =
        ap without_values (is_queue ∙ ap without_values changed)
        ∙ ap (λ w. first_view w (queue_view queue).span) (sym (ap (λ (q : QueueView). q.width) was_queue) ∙ kept.width)
        ∙ ap (first_view (size_of types ty)) (sym (ap (λ (q : QueueView). q.span) was_queue) ∙ kept.span_is)

    pub rebound_elsewhere : (other : ℕ) → (other ≡ node → ⊥)
        → slice_index_or (queues_of cells) other (first_view 0 0) ≡ slice_index_or (queues_of nodes) other (first_view 0 0)
    rebound_elsewhere = queues_elsewhere state refl (λ m apart. refl)
