-- What a round does to an engine.
use Rattle.std.proofs.Common.{◌+◌, ◌≡◌, ◌≤◌, ◌<◌, ◌*◌, ◌/◌, ◌%◌, ◌^◌, ℕ, max, List, [], map, length, Option, None, Some, slice_get, slice_index_or, refl, ap, sym, ◌∙◌, subst, arith, inl, inr}
use Rattle.std.proofs.lemmas.List.{length-map}
use Rattle.std.specs.Option.{option_map}
use Rattle.std.proofs.lemmas.Bool.{cases_lt}
use Rattle.std.proofs.lemmas.Option.{slice_get_past, slice_get_within, slice_get-map}
use Rattle.hume_base.specs.declared.limits.TheConstants.{MAX_NODES, MAX_WIRES}
use Rattle.hume_model.specs.declared.core_tree.StreamC.{StreamC}
use Rattle.hume_model.specs.declared.core_tree.NodeC.{NodeC}
use Rattle.hume_model.specs.declared.core_tree.NodeC.TheVariants.{Rules, From, To}
use Rattle.hume_model.specs.declared.core_tree.Core.{Core}
use Rattle.hume_net.specs.declared.state.State.{State}
use Rattle.hume_net.specs.Lockstep.{lockstep, at_time}
use Rattle.hume_net.specs.Nodes.{IsInput, IsInputStream, IsOutput, IsOutputStream}
use Rattle.hume_net.specs.Plan.{IsPlan, plan_of, wires_of, producer_of, consumer_of}
use Rattle.hume_net.specs.Sides.{on_wire, part_of}
use Rattle.hume_net.specs.Times.{wire_time}
use Rattle.hume_net.proofs.AtTimes.{types_after}
use Rattle.hume_net.proofs.Plans.{plan_joins, wires_counted}
use Rattle.hume_net.proofs.StatePlaces.{lockstep_state}
use Rattle.hume_net.proofs.Times.{even_state}
use Rattle.hume_net.proofs.WellFormedNets.{typed_net}
use Rattle.model_bare.proofs.Frames.{bare_frame, there, was_there}
use Rattle.model_bare.proofs.SameCores.{same_count}
use Rattle.model_bare.specs.Bare.{bare_of}
use Rattle.net_costs.specs.Steps.{peaks}
use Rattle.box_costs.specs.declared.cost.Cost.{Cost}
use Rattle.hume_streams.specs.Queues.{first_view}
use Rattle.hume_streams.specs.Logs.{LogView}
use Rattle.wire_cells.specs.Cells.{CellView, Holds}
use Rattle.box_step.specs.declared.nodes.cell.BoxCell.{BoxCell}
use Rattle.box_step.specs.nodes.Lends.{queue_in}
use Rattle.box_step.specs.nodes.Openings.{Opening, opening_after}
use Rattle.box_step.specs.nodes.Right.{IsRightNode, IsRightWire, heap_peak_of, stack_peak_of}
use Rattle.box_step.proofs.nodes_lemmas.Begun.{begun_node, first_state}
use Rattle.phase_workers.specs.declared.paths.Paths.{Paths}
use Rattle.step_turns.specs.Homes.{AreRightHome, IsHome}
use Rattle.step_turns.specs.Rounds.{AllRight, AreFrom, AreInPlace, AreUntil, HaveSpan, node_time, time_there}
use Rattle.turn_locker.specs.Held.{items_of}
use Rattle.phase_workers.specs.inner.Begun.{begun_cell, begun_wire}
use Rattle.phase_workers.specs.inner.Going.{ArePaths}
use Rattle.phase_workers.specs.inner.Whole.{IsWhole, IsQueueFor, queue_without, log_without, queues_of, logs_of, heaps_of, stacks_of, opening_at}
use Rattle.phase_workers.proofs.Indexes.{index_past, some_at}
use Rattle.phase_workers.proofs.CellsSeen.{IsNoBox, seen_at, right_as_seen, same_queue, same_log, heap_after, stack_after, no_heap, no_peaks}

-- a node that is no node has no box
past_no_box : (core : Core) (n : ℕ) → length core.nodes ≤ n → IsNoBox (slice_get core.nodes n)
past_no_box core n past = subst IsNoBox (sym (slice_get_past core.nodes n past)) tt

output_of : (core : Core) (n : ℕ) (stream : StreamC) → slice_get core.nodes n ≡ Some (To stream) → IsOutputStream core n
output_of core n stream at = subst IsOutput (sym at) tt

pub node_of_input : (core : Core) (n : ℕ) → IsInputStream core n → (stream : StreamC) × (slice_get core.nodes n ≡ Some (From stream))
node_of_input core n is = by (slice_get core.nodes n) refl is
  where
    by : (found : Option NodeC) → slice_get core.nodes n ≡ found → IsInput found → (stream : StreamC) × (slice_get core.nodes n ≡ Some (From stream))
    by None e i = absurd i
    by (Some (Rules b)) e i = absurd i
    by (Some (From stream)) e i = (stream, e)
    by (Some (To stream)) e i = absurd i

pub node_of_output : (core : Core) (n : ℕ) → IsOutputStream core n → (stream : StreamC) × (slice_get core.nodes n ≡ Some (To stream))
node_of_output core n is = by (slice_get core.nodes n) refl is
  where
    by : (found : Option NodeC) → slice_get core.nodes n ≡ found → IsOutput found → (stream : StreamC) × (slice_get core.nodes n ≡ Some (To stream))
    by None e i = absurd i
    by (Some (Rules b)) e i = absurd i
    by (Some (From stream)) e i = absurd i
    by (Some (To stream)) e i = (stream, e)

module _ (core bare : Core) (paths : Paths) (span : ℕ) (state : State) (nodes : List BoxCell) (home : List (Option CellView))
    (whole : IsWhole core bare paths span state nodes home) where
  abbrev opening : Opening
  opening = opening_at core state nodes

  pub bare_count : length bare.nodes ≡ length core.nodes
  bare_count = ap (λ (c : Core). length c.nodes) whole.opens.core_is ∙ same_count core

  pub cells_count : length nodes ≡ length core.nodes
  cells_count = whole.place.count ∙ bare_count

  pub bare_wires : length bare.wires ≡ length core.wires
  bare_wires = ap (λ (c : Core). length c.wires) whole.opens.core_is

  pub cell_at : (n : ℕ) → n < length core.nodes → (cell : BoxCell) × (slice_get nodes n ≡ Some cell)
  cell_at n less = (let long = cells_count in some_at nodes n (omega (arith, less, long)))

  -- the cell of a node, right at time 0
  pub right_cell : (n : ℕ) (cell : BoxCell) → slice_get nodes n ≡ Some cell → IsRightNode opening n 0 cell.kind
  right_cell n cell at =
      subst (λ t. IsRightNode opening n t cell.kind) (whole.begun n cell at)
      (subst (λ m. IsRightNode opening m cell.time cell.kind) (whole.place.numbers n cell at) (whole.right.each n cell at))

  -- what a round asks for

  pub plan_is : IsPlan (plan_of bare)
  plan_is =
      let frame = bare_frame core whole.runnable.formed.frame in
      subst (λ (c : Core). IsPlan (plan_of c)) (sym whole.opens.core_is) (plan_joins (bare_of core) frame.wires)

  pub few_items : items_of (plan_of bare) + 2 ^ 18 < 2 ^ 32
  few_items =
      let limits = whole.runnable.formed.frame.limits in
      let nodes_few : length core.nodes ≤ MAX_NODES = limits.nodes in
      let wires_few : length core.wires ≤ MAX_WIRES = limits.wires in
      let nodes_same = bare_count in
      let wires_same = bare_wires in
      let counted = wires_counted bare in
      omega (arith, nodes_few, wires_few, nodes_same, wires_same, counted)

  -- whatever way the half steps go
  pub by_paths : (other : Paths) → ArePaths bare other → IsWhole core bare other span state nodes home
  by_paths other are = record {
    runnable = whole.runnable;
    opens = whole.opens;
    right = whole.right;
    place = whole.place;
    wires = whole.wires;
    begun = whole.begun;
    paths_are = are;
    queues = whole.queues;
    logs = whole.logs;
    fits = whole.fits;
  }

  pub none_begun : AreUntil 0 nodes
  none_begun n less =
      let cell = some_at nodes n less in
      let time : node_time nodes n ≡ 0 = ap time_there cell.1 ∙ whole.begun n cell.0 cell.1 in
      omega (arith, time)

  pub wires_there : length home ≡ length bare.wires
  wires_there = whole.wires ∙ sym bare_wires

  pub have_span : (steps : ℕ) → steps ≤ span → ((n : ℕ) → IsOutputStream core n → (part_of state n).taken ≡ []) → HaveSpan opening steps
  have_span steps few clear n stream at =
      let none = ap length (clear n (output_of core n stream at)) in
      let wide = whole.logs n stream at in
      omega (arith, none, wide, few)

  module _ (steps : ℕ) (later : List BoxCell) (laid : List (Option CellView)) (place : AreInPlace bare later laid) (until : AreUntil (2 * steps) later)
      (from : AreFrom (2 * steps) later) (right : AllRight opening later laid) (laid_long : length laid ≡ length bare.wires) where
    abbrev next : State
    next = lockstep core state steps

    abbrev cells : List BoxCell
    cells = map begun_cell later

    abbrev wires : List (Option CellView)
    wires = map begun_wire laid

    abbrev seen : Opening
    seen = opening_at core next cells

    half : 2 * steps / 2 ≡ steps
    half = omega arith

    later_count : length later ≡ length core.nodes
    later_count = place.count ∙ bare_count

    end_of : (n : ℕ) → n < length later → node_time later n ≡ 2 * steps
    end_of n less = (let low = from n less in let high = until n less in omega (arith, low, high))

    end_time : (n : ℕ) (cell : BoxCell) → slice_get later n ≡ Some cell → cell.time ≡ 2 * steps
    end_time n cell at = sym (ap time_there at) ∙ end_of n (slice_get_within later n cell at)

    pub even_times : (n : ℕ) (cell : BoxCell) → slice_get later n ≡ Some cell → cell.time % 2 ≡ 0
    even_times n cell at = (let end = end_time n cell at in omega (arith, end))

    later_right : (n : ℕ) (cell : BoxCell) → slice_get later n ≡ Some cell → IsRightNode opening n (2 * steps) cell.kind
    later_right n cell at =
        subst (λ t. IsRightNode opening n t cell.kind) (end_time n cell at)
        (subst (λ m. IsRightNode opening m cell.time cell.kind) (place.numbers n cell at) (right.each n cell at))

    begun_right : (n : ℕ) (cell : BoxCell) → slice_get later n ≡ Some cell → IsRightNode seen n 0 cell.kind
    begun_right n cell at =
        let even : 2 * steps % 2 ≡ 0 = omega arith in
        let gone = begun_node opening (2 * steps) even n cell.kind (later_right n cell at) in
        right_as_seen (opening_after opening steps) cells n cell.kind (seen_at cells n (begun_cell cell) (there begun_cell later n cell at))
        (subst (λ k. IsRightNode (opening_after opening k) n 0 cell.kind) half gone)

    next_right : (n : ℕ) (cell : BoxCell) → slice_get cells n ≡ Some cell → IsRightNode seen cell.number cell.time cell.kind
    next_right n cell at =
        let was = was_there begun_cell later n cell at in
        subst (λ (c : BoxCell). IsRightNode seen c.number c.time c.kind) was.2
        (subst (λ m. IsRightNode seen m 0 was.0.kind) (sym (place.numbers n was.0 was.1)) (begun_right n was.0 was.1))

    -- wires

    laid_time : (w : ℕ) → wire_time (plan_of bare) (node_time later) w ≡ 2 * steps → (cell : CellView) → slice_get laid w ≡ Some (Some cell)
        → w < length bare.wires → cell.time ≡ 2 * steps
    laid_time w is cell at less =
        let home_is = place.wires w less in
        let same : cell ≡ home_is.cell = (let both : Some (Some cell) ≡ Some (Some home_is.cell) = sym at ∙ home_is.there in cc) in
        ap (λ (c : CellView). c.time) same ∙ home_is.at ∙ is

    same_wire : (cell : CellView) → cell.time ≡ 2 * steps → IsRightWire opening cell → IsRightWire seen (record cell { time = 0 })
    same_wire cell end is =
        let even : cell.time % 2 ≡ 0 = omega (arith, end) in
        let halves : cell.time / 2 ≡ steps = omega (arith, end) in
        let same : at_time core state cell.time ≡ at_time core next 0 =
        even_state core state cell.time even ∙ ap (lockstep core state) halves ∙ sym (first_state core next) in
        let holds = subst (λ s. Holds core.types is.wire cell (on_wire s cell.number)) same is.holds in
        record {
          wire = is.wire;
          there = is.there;
          holds = record { words = holds.words; typed = holds.typed; whole = holds.whole; depth = holds.depth };
        }

    ends : (w : ℕ) → w < length bare.wires → wire_time (plan_of bare) (node_time later) w ≡ 2 * steps
    ends w less =
        let counted = wires_counted bare in
        let inside : w < wires_of (plan_of bare) = omega (arith, less, counted) in
        let count = place.count in
        let consumer = plan_is.consumers w inside in
        let producer = plan_is.producers w inside in
        let first = end_of (consumer_of (plan_of bare) w) (omega (arith, consumer, count)) in
        let last = end_of (producer_of (plan_of bare) w) (omega (arith, producer, count)) in
        omega (arith, first, last)

    wire_begun : (w : ℕ) (cell : CellView) (old : Option CellView) → slice_get laid w ≡ Some old → begun_wire old ≡ Some cell → IsRightWire seen cell
    wire_begun w cell None at is = cc
    wire_begun w cell (Some old) at is =
        let inside = slice_get_within laid w (Some old) at in
        let long = laid_long in
        let less : w < length bare.wires = omega (arith, inside, long) in
        let same : record old { time = 0 } ≡ cell = cc in
        subst (IsRightWire seen) same (same_wire old (laid_time w (ends w less) old at less) (right.wires.each w old at))

    next_wires : AreRightHome seen wires
    next_wires = record { each = λ w cell at. let was = was_there begun_wire laid w (Some cell) at in wire_begun w cell was.0 was.1 was.2 }

    -- places

    next_time : (n : ℕ) → node_time cells n ≡ 0
    next_time n = by (slice_get later n) refl
      where
        by : (found : Option BoxCell) → slice_get later n ≡ found → node_time cells n ≡ 0
        by None at = ap time_there (slice_get-map begun_cell later n ∙ ap (option_map begun_cell) at)
        by (Some cell) at = ap time_there (there begun_cell later n cell at)

    next_home : (w : ℕ) → w < length bare.wires → IsHome w 0 wires
    next_home w less =
        let its = place.wires w less in
        record {
          cell = record its.cell { time = 0 };
          there = slice_get-map begun_wire laid w ∙ ap (option_map begun_wire) its.there;
          number = its.number;
          at = refl;
        }

    next_wire_time : (w : ℕ) → wire_time (plan_of bare) (node_time cells) w ≡ 0
    next_wire_time w =
        let first = next_time (consumer_of (plan_of bare) w) in
        let last = next_time (producer_of (plan_of bare) w) in
        omega (arith, first, last)

    next_place : AreInPlace bare cells wires
    next_place = record {
      count = length-map later begun_cell ∙ place.count;
      numbers = λ n cell at.
          let was = was_there begun_cell later n cell at in
          sym (ap (λ (c : BoxCell). c.number) was.2) ∙ place.numbers n was.0 was.1;
      balanced = λ w less.
          let first = next_time (consumer_of (plan_of bare) w) in
          let last = next_time (producer_of (plan_of bare) w) in
          record { not_behind = omega (arith, first, last); not_ahead = omega (arith, first, last) };
      wires = λ w less. subst (λ t. IsHome w t wires) (sym (next_wire_time w)) (next_home w less);
    }

    -- what is seen of the cells

    -- the same node's cell before and afterwards, or none
    pub queue_same : (n : ℕ) → slice_index_or (queues_of cells) n (first_view 0 0) ≡ slice_index_or (queues_of nodes) n (first_view 0 0)
    queue_same n = elim (cases_lt n (length core.nodes)) [
      | inl less ↦
          let old = cell_at n less in
          let count = later_count in
          let new = some_at later n (omega (arith, less, count)) in
          let before = seen_at nodes n old.0 old.1 in
          let after = seen_at cells n (begun_cell new.0) (there begun_cell later n new.0 new.1) in
          after.2 ∙ same_queue opening n 0 (2 * steps) old.0.kind new.0.kind before.2 (right_cell n old.0 old.1) (later_right n new.0 new.1) ∙ sym before.2
      | inr past ↦
          let long = cells_count in
          let count = later_count in
          let mapped = length-map later begun_cell in
          index_past (λ (c : BoxCell). queue_without (queue_in c.kind)) cells n (first_view 0 0) (omega (arith, past, count, mapped))
          ∙ sym (index_past (λ (c : BoxCell). queue_without (queue_in c.kind)) nodes n (first_view 0 0) (omega (arith, past, long)))
    ]

    log_same : (n : ℕ) → n < length core.nodes → slice_index_or (logs_of cells) n (log_without None) ≡ slice_index_or (logs_of nodes) n (log_without None)
    log_same n less =
        let old = cell_at n less in
        let count = later_count in
        let new = some_at later n (omega (arith, less, count)) in
        let before = seen_at nodes n old.0 old.1 in
        let after = seen_at cells n (begun_cell new.0) (there begun_cell later n new.0 new.1) in
        after.3 ∙ same_log opening n 0 (2 * steps) old.0.kind new.0.kind before.3 (right_cell n old.0 old.1) (later_right n new.0 new.1) ∙ sym before.3

    no_peak : (n : ℕ) (less : n < length core.nodes) → IsNoBox (slice_get core.nodes n)
        → (slice_index_or (heaps_of nodes) n 0 ≡ 0) × (slice_index_or (stacks_of nodes) n 0 ≡ 0)
    no_peak n less none =
        let old = cell_at n less in
        let seen_old = seen_at nodes n old.0 old.1 in
        let zero = no_heap opening n 0 old.0.kind (right_cell n old.0 old.1) none in
        (seen_old.0 ∙ zero.0, seen_old.1 ∙ zero.1)

    pub heap_more : (n : ℕ) → slice_index_or (heaps_of cells) n 0 ≡ max (slice_index_or (heaps_of nodes) n 0) (peaks core state steps n).heap
    heap_more n = elim (cases_lt n (length core.nodes)) [
      | inl less ↦
          let count = later_count in
          let new = some_at later n (omega (arith, less, count)) in
          (seen_at cells n (begun_cell new.0) (there begun_cell later n new.0 new.1)).0
          ∙ heap_after opening n steps new.0.kind (λ none. (no_peak n less none).0) (later_right n new.0 new.1)
      | inr past ↦
          let long = cells_count in
          let count = later_count in
          let mapped = length-map later begun_cell in
          let after = index_past (λ (c : BoxCell). heap_peak_of c.kind) cells n 0 (omega (arith, past, count, mapped)) in
          let before = index_past (λ (c : BoxCell). heap_peak_of c.kind) nodes n 0 (omega (arith, past, long)) in
          let none = ap (λ (c : Cost). c.heap) (no_peaks core state steps n (past_no_box core n past)) in
          omega (arith, after, before, none)
    ]

    pub stack_more : (n : ℕ) → slice_index_or (stacks_of cells) n 0 ≡ max (slice_index_or (stacks_of nodes) n 0) (peaks core state steps n).stack
    stack_more n = elim (cases_lt n (length core.nodes)) [
      | inl less ↦
          let count = later_count in
          let new = some_at later n (omega (arith, less, count)) in
          (seen_at cells n (begun_cell new.0) (there begun_cell later n new.0 new.1)).1
          ∙ stack_after opening n steps new.0.kind (λ none. (no_peak n less none).1) (later_right n new.0 new.1)
      | inr past ↦
          let long = cells_count in
          let count = later_count in
          let mapped = length-map later begun_cell in
          let after = index_past (λ (c : BoxCell). stack_peak_of c.kind) cells n 0 (omega (arith, past, count, mapped)) in
          let before = index_past (λ (c : BoxCell). stack_peak_of c.kind) nodes n 0 (omega (arith, past, long)) in
          let none = ap (λ (c : Cost). c.stack) (no_peaks core state steps n (past_no_box core n past)) in
          omega (arith, after, before, none)
    ]

    next_queue : (n : ℕ) → IsInputStream core n → IsQueueFor core span n (slice_index_or (queues_of cells) n (first_view 0 0))
    next_queue n is = subst (IsQueueFor core span n) (sym (queue_same n)) (whole.queues n is)

    pub next_whole : IsWhole core bare paths span next cells wires
    next_whole = record {
      runnable = whole.runnable;
      opens = record {
        core_is = whole.opens.core_is;
        formed = whole.opens.formed;
        agree = whole.opens.agree;
        handles = whole.opens.handles;
        typed = types_after core (typed_net core whole.runnable.formed whole.runnable.agree).0 state whole.opens.typed steps;
      };
      right = record { each = next_right; wires = next_wires };
      place = next_place;
      wires = length-map laid begun_wire ∙ laid_long ∙ bare_wires;
      begun = λ n cell at. (let was = was_there begun_cell later n cell at in sym (ap (λ (c : BoxCell). c.time) was.2));
      paths_are = whole.paths_are;
      queues = next_queue;
      logs = λ n stream at. ap (λ (l : LogView). l.span) (log_same n (slice_get_within core.nodes n (To stream) at)) ∙ whole.logs n stream at;
      fits = lockstep_state core state whole.fits steps;
    }

    pub whole_after : (s : State) (ns : List BoxCell) (hs : List (Option CellView)) → s ≡ next → ns ≡ cells → hs ≡ wires
        → IsWhole core bare paths span s ns hs
    whole_after s ns hs same_state same_nodes same_home =
        subst (λ x. IsWhole core bare paths span x ns hs) (sym same_state)
        (subst (λ x. IsWhole core bare paths span next x hs) (sym same_nodes)
        (subst (λ x. IsWhole core bare paths span next cells x) (sym same_home) next_whole))
