-- An engine between two calls: all its cells are at time 0.
use Rattle.std.proofs.Common.{◌≡◌, ◌<◌, ℕ, List, map, length, Option, None, Some, slice_get, refl, ap, sym, ◌∙◌, subst, arith}
use Rattle.std.proofs.lemmas.Option.{slice_get_within}
use Rattle.hume_base.specs.Flat.{flat}
use Rattle.hume_base.specs.Sizes.{size_of}
use Rattle.hume_model.specs.declared.core_tree.NodeC.TheVariants.{From, To}
use Rattle.hume_model.specs.declared.core_tree.WireC.{WireC}
use Rattle.hume_model.specs.declared.core_tree.Core.{Core}
use Rattle.hume_net.specs.declared.state.Part.{Part}
use Rattle.hume_net.specs.declared.state.State.{State}
use Rattle.hume_net.specs.Lockstep.{at_time, node_at}
use Rattle.hume_net.specs.Nodes.{IsInput, IsInputStream, IsOutput, IsOutputStream}
use Rattle.hume_net.specs.Plan.{plan_of, producer_of, consumer_of}
use Rattle.hume_net.specs.Sides.{on_wire, part_of}
use Rattle.hume_net.specs.Times.{wire_time}
use Rattle.hume_net.proofs.FoundWires.{from_comes, from_each, to_each, to_leads}
use Rattle.hume_streams.specs.declared.queue.InQueue.{InQueue}
use Rattle.hume_streams.specs.declared.log.OutLog.{OutLog}
use Rattle.hume_streams.specs.Queues.{QueueView, queue_view}
use Rattle.hume_streams.specs.Logs.{LogView, log_view}
use Rattle.wire_cells.specs.Cells.{CellView, Holds}
use Rattle.box_step.specs.declared.nodes.cell.Kind.{Kind}
use Rattle.box_step.specs.declared.nodes.cell.Kind.TheVariants.{Coded, Queued, Logged}
use Rattle.box_step.specs.declared.nodes.cell.BoxCell.{BoxCell}
use Rattle.box_step.specs.nodes.Lends.{queue_in, log_in}
use Rattle.box_step.specs.nodes.Openings.{Opening}
use Rattle.box_step.specs.nodes.Right.{IsRightNode}
use Rattle.box_step.specs.nodes.Sides.{brought_type, taken_type, type_found, type_there}
use Rattle.box_step.proofs.nodes_lemmas.Begun.{first_state}
use Rattle.phase_workers.specs.declared.paths.Paths.{Paths}
use Rattle.step_turns.specs.Homes.{IsHome}
use Rattle.step_turns.specs.Rounds.{AreInPlace, node_time, time_there}
use Rattle.phase_workers.specs.Runnable.{IsRunnable}
use Rattle.phase_workers.specs.StreamTypes.{type_at}
use Rattle.phase_workers.specs.inner.Whole.{IsWhole, opening_at, queue_without, log_without}
use Rattle.phase_workers.proofs.CellsSeen.{seen_at}
use Rattle.phase_workers.proofs.Rounding.{bare_wires, cell_at, node_of_input, node_of_output, right_cell}
use Rattle.phase_workers.proofs.Wires.{input_type, output_type}

pub part_at_first : (core : Core) (state : State) (n : ℕ) → node_at core state n 0 ≡ part_of state n
part_at_first core state n = ap (λ s. part_of s n) (first_state core state)

-- the wire of a stream is found at its only place

pub brought_is : (core : Core) → IsRunnable core → (n : ℕ) → IsInputStream core n → brought_type core n ≡ type_at core n
brought_is core run n is =
    let node = node_of_input core n is in
    let found = from_each core run.wired n 0 (From node.0) node.1 (omega arith) in
    let wire = from_comes core n 0 found.0 found.1 in
    ap (type_found core) found.1 ∙ ap type_there wire.1 ∙ sym (input_type core run n found.0 wire.0 wire.1 is wire.2)

pub taken_is : (core : Core) → IsRunnable core → (n : ℕ) → IsOutputStream core n → taken_type core n ≡ type_at core n
taken_is core run n is =
    let node = node_of_output core n is in
    let found = to_each core run.wired n 0 (To node.0) node.1 (omega arith) in
    let wire = to_leads core n 0 found.0 found.1 in
    ap (type_found core) found.1 ∙ ap type_there wire.1 ∙ sym (output_type core run n found.0 wire.0 wire.1 is wire.2)

zero_wire : (bare : Core) (nodes : List BoxCell) → ((n : ℕ) → node_time nodes n ≡ 0) → (w : ℕ) → wire_time (plan_of bare) (node_time nodes) w ≡ 0
zero_wire bare nodes zero w =
    let first = zero (consumer_of (plan_of bare) w) in
    let last = zero (producer_of (plan_of bare) w) in
    omega (arith, first, last)

-- cells at time 0 are in place
pub at_rest : (bare : Core) (nodes : List BoxCell) (home : List (Option CellView)) → length nodes ≡ length bare.nodes
    → ((n : ℕ) (cell : BoxCell) → slice_get nodes n ≡ Some cell → cell.number ≡ n) → ((n : ℕ) → node_time nodes n ≡ 0)
    → ((w : ℕ) → w < length bare.wires → IsHome w 0 home) → AreInPlace bare nodes home
at_rest bare nodes home count numbers zero homes = record {
  count = count;
  numbers = numbers;
  balanced = λ w less.
      let first = zero (consumer_of (plan_of bare) w) in
      let last = zero (producer_of (plan_of bare) w) in
      record { not_behind = omega (arith, first, last); not_ahead = omega (arith, first, last) };
  wires = λ w less. subst (λ t. IsHome w t home) (sym (zero_wire bare nodes zero w)) (homes w less);
}

pub zero_times : (nodes : List BoxCell) → ((n : ℕ) (cell : BoxCell) → slice_get nodes n ≡ Some cell → cell.time ≡ 0) → (n : ℕ) → node_time nodes n ≡ 0
zero_times nodes begun n = by (slice_get nodes n) refl
  where
    by : (found : Option BoxCell) → slice_get nodes n ≡ found → node_time nodes n ≡ 0
    by None at = ap time_there at
    by (Some cell) at = ap time_there at ∙ begun n cell at

-- the cell of an input stream has a queue, that of an output stream a log
pub has_queue : (opening : Opening) (n time : ℕ) (kind : Kind) → IsInputStream opening.core n → IsRightNode opening n time kind
    → (queue : InQueue) × (queue_in kind ≡ Some queue)
    × ((queue_view queue).values ≡ map (flat opening.core.types (brought_type opening.core n)) (node_at opening.core opening.state n time).coming)
has_queue opening n time (Coded box) is right = absurd (subst IsInput right.there is)
has_queue opening n time (Queued queue) is right = (queue.value, refl, right.values)
has_queue opening n time (Logged log) is right = absurd (subst IsInput right.there is)

pub has_log : (opening : Opening) (n time : ℕ) (kind : Kind) → IsOutputStream opening.core n → IsRightNode opening n time kind
    → (log : OutLog) × (log_in kind ≡ Some log)
    × ((log_view log).values ≡ map (flat opening.core.types (taken_type opening.core n)) (node_at opening.core opening.state n time).taken)
    × ((log_view log).width ≡ size_of opening.core.types (taken_type opening.core n))
has_log opening n time (Coded box) is right = absurd (subst IsOutput right.there is)
has_log opening n time (Queued queue) is right = absurd (subst IsOutput right.there is)
has_log opening n time (Logged log) is right = (log.value, refl, right.values, right.width)

module _ (core bare : Core) (paths : Paths) (span : ℕ) (state : State) (nodes : List BoxCell) (home : List (Option CellView))
    (whole : IsWhole core bare paths span state nodes home) where
  pub home_at : (w : ℕ) → w < length bare.wires → IsHome w 0 home
  home_at w less = subst (λ t. IsHome w t home) (zero_wire bare nodes (zero_times nodes whole.begun) w) (whole.place.wires w less)

  pub wire_time_is : (w : ℕ) (cell : CellView) → slice_get home w ≡ Some (Some cell) → cell.time ≡ 0
  wire_time_is w cell at =
      let inside = slice_get_within home w (Some cell) at in
      let held = whole.wires in
      let all = bare_wires core bare paths span state nodes home whole in
      let is = home_at w (omega (arith, inside, held, all)) in
      let same : cell ≡ is.cell = (let both : Some (Some cell) ≡ Some (Some is.cell) = sym at ∙ is.there in cc) in
      ap (λ (c : CellView). c.time) same ∙ is.at

  -- the cell of a wire
  pub wire_there : (w : ℕ) → w < length core.wires
      → (cell : CellView) × (slice_get home w ≡ Some (Some cell)) × (cell.number ≡ w)
      × ((its : WireC) → slice_get core.wires w ≡ Some its → Holds core.types its cell (on_wire state w))
  wire_there w less =
      let all = bare_wires core bare paths span state nodes home whole in
      let is = home_at w (omega (arith, less, all)) in
      let right = whole.right.wires.each w is.cell is.there in
      let state_is : Holds core.types right.wire is.cell (on_wire state is.cell.number) =
      subst (λ s. Holds core.types right.wire is.cell (on_wire s is.cell.number)) (first_state core state)
      (subst (λ t. Holds core.types right.wire is.cell (on_wire (at_time core state t) is.cell.number)) is.at right.holds) in (
        is.cell,
        is.there,
        is.number,
        λ its at.
            let both : Some right.wire ≡ Some its = sym right.there ∙ ap (slice_get core.wires) is.number ∙ at in
            let same : right.wire ≡ its = cc in
            subst (λ wire. Holds core.types wire is.cell (on_wire state w)) same
            (subst (λ m. Holds core.types right.wire is.cell (on_wire state m)) is.number state_is),
      )

  -- the cell of an input stream
  pub queue_there : (n : ℕ) → IsInputStream core n
      → (cell : BoxCell) × (slice_get nodes n ≡ Some cell) × (queue : InQueue) × (queue_in cell.kind ≡ Some queue)
      × ((queue_view queue).values ≡ map (flat core.types (type_at core n)) (part_of state n).coming)
      × (size_of core.types (type_at core n) ≡ (queue_view queue).width) × (span ≡ (queue_view queue).span)
  queue_there n is =
      let node = node_of_input core n is in
      let cell = cell_at core bare paths span state nodes home whole n (slice_get_within core.nodes n (From node.0) node.1) in
      let right = right_cell core bare paths span state nodes home whole n cell.0 cell.1 in
      let queue = has_queue (opening_at core state nodes) n 0 cell.0.kind is right in
      let seen = (seen_at nodes n cell.0 cell.1).2 ∙ ap queue_without queue.1 in
      let kept = whole.queues n is in (
        cell.0,
        cell.1,
        queue.0,
        queue.1,
        queue.2 ∙ ap (λ ty. map (flat core.types ty) (node_at core state n 0).coming) (brought_is core whole.runnable n is)
            ∙ ap (λ (p : Part). map (flat core.types (type_at core n)) p.coming) (part_at_first core state n),
        sym kept.width ∙ ap (λ (q : QueueView). q.width) seen,
        sym kept.span_is ∙ ap (λ (q : QueueView). q.span) seen,
      )

  -- the cell of an output stream
  pub log_there : (n : ℕ) → IsOutputStream core n
      → (cell : BoxCell) × (slice_get nodes n ≡ Some cell) × (log : OutLog) × (log_in cell.kind ≡ Some log)
      × ((log_view log).values ≡ map (flat core.types (type_at core n)) (part_of state n).taken)
      × ((log_view log).width ≡ size_of core.types (taken_type core n)) × ((log_view log).span ≡ span)
  log_there n is =
      let node = node_of_output core n is in
      let cell = cell_at core bare paths span state nodes home whole n (slice_get_within core.nodes n (To node.0) node.1) in
      let right = right_cell core bare paths span state nodes home whole n cell.0 cell.1 in
      let log = has_log (opening_at core state nodes) n 0 cell.0.kind is right in
      let seen = (seen_at nodes n cell.0 cell.1).3 ∙ ap log_without log.1 in
      let kept = whole.logs n node.0 node.1 in (
        cell.0,
        cell.1,
        log.0,
        log.1,
        log.2 ∙ ap (λ ty. map (flat core.types ty) (node_at core state n 0).taken) (taken_is core whole.runnable n is)
            ∙ ap (λ (p : Part). map (flat core.types (type_at core n)) p.taken) (part_at_first core state n),
        log.3,
        sym (ap (λ (l : LogView). l.span) seen) ∙ kept,
      )
