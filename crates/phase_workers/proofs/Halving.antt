-- A half of a superstep: what an engine is in its midst, and afterwards.
use Rattle.std.proofs.Common.{◌≡◌, ◌≤◌, ◌<◌, ℕ, List, [], length, Option, Some, slice_get, slice_index_or, ap, sym, ◌∙◌, subst, refl, arith, inl, inr}
use Rattle.std.proofs.lemmas.Bool.{cases_lt}
use Rattle.hume_model.specs.declared.core_tree.WireC.{WireC}
use Rattle.hume_model.specs.declared.core_tree.Core.{Core}
use Rattle.hume_net.specs.declared.state.State.{State}
use Rattle.hume_net.specs.Lockstep.{lockstep, superstep, mid, up, at_time}
use Rattle.hume_net.specs.Nodes.{IsOutputStream}
use Rattle.hume_net.specs.Plan.{plan_of, wires_of, producer_of, consumer_of}
use Rattle.hume_net.specs.Sides.{on_wire, part_of}
use Rattle.hume_net.specs.Times.{wire_time}
use Rattle.hume_net.proofs.Plans.{wires_counted}
use Rattle.hume_net.proofs.Times.{after_even}
use Rattle.hume_streams.specs.Queues.{first_view}
use Rattle.wire_cells.specs.Cells.{CellView, Holds}
use Rattle.box_step.specs.declared.nodes.cell.BoxCell.{BoxCell}
use Rattle.box_step.specs.nodes.Lends.{queue_in}
use Rattle.box_step.specs.nodes.Openings.{Opening}
use Rattle.box_step.specs.nodes.Right.{IsRightNode}
use Rattle.box_step.proofs.nodes_lemmas.Begun.{first_state}
use Rattle.phase_workers.specs.declared.paths.Paths.{Paths}
use Rattle.step_turns.specs.Rounds.{AllRight, AreFrom, AreInPlace, AreUntil, HasSpan, node_time}
use Rattle.phase_workers.specs.inner.Midst.{IsMidst}
use Rattle.phase_workers.specs.inner.Whole.{IsWhole, queue_without, queues_of, opening_at}
use Rattle.phase_workers.proofs.AtRest.{part_at_first}
use Rattle.phase_workers.proofs.CellsSeen.{seen_at, same_queue}
use Rattle.phase_workers.proofs.Indexes.{index_past, some_at}
use Rattle.phase_workers.proofs.Rounding.{bare_count, bare_wires, cell_at, cells_count, have_span, none_begun, plan_is, right_cell}

-- the state in the midst of a superstep, and after it
pub midst_state : (core : Core) (state : State) → at_time core state 1 ≡ mid core state
midst_state core state = after_even core state 0 refl ∙ ap (mid core) (first_state core state)

pub next_state : (core : Core) (state : State) → lockstep core state 1 ≡ up core (mid core state)
unfolding lockstep superstep
next_state core state = refl

module _ (core bare : Core) (paths : Paths) (span : ℕ) (state : State) (nodes : List BoxCell) (home : List (Option CellView))
    (whole : IsWhole core bare paths span state nodes home) where
  abbrev opening : Opening
  opening = opening_at core state nodes

  -- each log has room for a value
  pub first_span : 1 ≤ span → ((n : ℕ) → IsOutputStream core n → (part_of state n).taken ≡ []) → HasSpan opening 0
  first_span few clear n stream at =
      let wide = have_span core bare paths span state nodes home whole 1 few clear n stream at in
      let same = ap (λ p. length p.taken) (part_at_first core state n) in
      omega (arith, wide, same)

  pub from_first : AreFrom 0 nodes
  from_first n less = omega arith

  pub until_first : AreUntil 1 nodes
  until_first n less = (let none = none_begun core bare paths span state nodes home whole n less in omega (arith, none))

  -- cells that are right for the same opening at later times
  module _ (later : List BoxCell) (laid : List (Option CellView)) (place : AreInPlace bare later laid) (right : AllRight opening later laid) where
    later_long : length later ≡ length core.nodes
    later_long = place.count ∙ bare_count core bare paths span state nodes home whole

    later_right : (n : ℕ) (cell : BoxCell) → slice_get later n ≡ Some cell → IsRightNode opening n cell.time cell.kind
    later_right n cell at = subst (λ m. IsRightNode opening m cell.time cell.kind) (place.numbers n cell at) (right.each n cell at)

    -- the queue of a node is the same but for its values
    pub queue_later : (n : ℕ) → slice_index_or (queues_of later) n (first_view 0 0) ≡ slice_index_or (queues_of nodes) n (first_view 0 0)
    queue_later n = elim (cases_lt n (length core.nodes)) [
      | inl less ↦
          let old = cell_at core bare paths span state nodes home whole n less in
          let long = later_long in
          let new = some_at later n (omega (arith, less, long)) in
          let before = seen_at nodes n old.0 old.1 in
          let after = seen_at later n new.0 new.1 in
          after.2 ∙ same_queue opening n 0 new.0.time old.0.kind new.0.kind before.2
          (right_cell core bare paths span state nodes home whole n old.0 old.1) (later_right n new.0 new.1) ∙ sym before.2
      | inr past ↦
          let long = cells_count core bare paths span state nodes home whole in
          let count = later_long in
          index_past (λ (c : BoxCell). queue_without (queue_in c.kind)) later n (first_view 0 0) (omega (arith, past, count))
          ∙ sym (index_past (λ (c : BoxCell). queue_without (queue_in c.kind)) nodes n (first_view 0 0) (omega (arith, past, long)))
    ]

    pub midst_now : length laid ≡ length bare.wires → AreFrom 1 later → AreUntil 1 later → IsMidst core bare paths span state later laid
    midst_now long from until = record {
      first_nodes = nodes;
      first_home = home;
      whole = whole;
      right = right;
      place = place;
      wires = long;
      from = from;
      until = until;
    }

module _ (core bare : Core) (paths : Paths) (span : ℕ) (before : State) (nodes : List BoxCell) (home : List (Option CellView))
    (midst : IsMidst core bare paths span before nodes home) where
  abbrev first : Opening
  first = opening_at core before midst.first_nodes

  time_is : (n : ℕ) → n < length nodes → node_time nodes n ≡ 1
  time_is n less = (let low = midst.from n less in let high = midst.until n less in omega (arith, low, high))

  pub until_second : AreUntil 2 nodes
  until_second n less = (let high = midst.until n less in omega (arith, high))

  wire_time_is : (w : ℕ) → w < length bare.wires → wire_time (plan_of bare) (node_time nodes) w ≡ 1
  wire_time_is w less =
      let plan = plan_is core bare paths span before midst.first_nodes midst.first_home midst.whole in
      let counted = wires_counted bare in
      let inside : w < wires_of (plan_of bare) = omega (arith, less, counted) in
      let long = midst.place.count in
      let consumer = plan.consumers w inside in
      let producer = plan.producers w inside in
      let early = time_is (consumer_of (plan_of bare) w) (omega (arith, consumer, long)) in
      let late = time_is (producer_of (plan_of bare) w) (omega (arith, producer, long)) in
      omega (arith, early, late)

  -- the cell of a wire holds what is on the wire in the midst of the superstep
  pub wire_midst : (w : ℕ) → w < length core.wires
      → (cell : CellView) × (slice_get home w ≡ Some (Some cell)) × (cell.number ≡ w)
      × ((its : WireC) → slice_get core.wires w ≡ Some its → Holds core.types its cell (on_wire (mid core before) w))
  wire_midst w less =
      let all = bare_wires core bare paths span before midst.first_nodes midst.first_home midst.whole in
      let inside : w < length bare.wires = omega (arith, less, all) in
      let is = midst.place.wires w inside in
      let time : is.cell.time ≡ 1 = is.at ∙ wire_time_is w inside in
      let right = midst.right.wires.each w is.cell is.there in
      let state_is : Holds core.types right.wire is.cell (on_wire (mid core before) is.cell.number) =
      subst (λ s. Holds core.types right.wire is.cell (on_wire s is.cell.number)) (midst_state core before)
      (subst (λ t. Holds core.types right.wire is.cell (on_wire (at_time core before t) is.cell.number)) time right.holds) in (
        is.cell,
        is.there,
        is.number,
        λ its at.
            let both : Some right.wire ≡ Some its = sym right.there ∙ ap (slice_get core.wires) is.number ∙ at in
            let same : right.wire ≡ its = cc in
            subst (λ wire. Holds core.types wire is.cell (on_wire (mid core before) w)) same
            (subst (λ m. Holds core.types right.wire is.cell (on_wire (mid core before) m)) is.number state_is),
      )
