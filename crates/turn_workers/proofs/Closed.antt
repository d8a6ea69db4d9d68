-- All cells are back from a closed locker of groups: in place, not beyond the end, and right.
use Rattle.std.proofs.Common.{◌≡◌, ◌+◌, ◌*◌, ◌<◌, ℕ, List, length, Option, Some, slice_get, ap, sym, ◌∙◌, subst, inl, inr, arith}
use Rattle.std.proofs.lemmas.Bool.{cases_eq}
use Rattle.std.proofs.lemmas.Option.{slice_get_within}
use Rattle.hume_model.specs.declared.core_tree.Core.{Core}
use Rattle.hume_net.specs.Plan.{plan_of, producer_of, consumer_of, wires_of, IsPlan}
use Rattle.hume_net.specs.Times.{AreBalanced, wire_time}
use Rattle.hume_net.proofs.Plans.{there, wires_counted}
use Rattle.superstep_core.specs.declared.grouping.Grouping.{Grouping}
use Rattle.superstep_core.specs.Groups.{group_of, quotient, times_by, IsGrouping, IsInner}
use Rattle.superstep_core.proofs.Grouped.{crossing_time, crossing_within, groups_balanced, inner_time}
use Rattle.wire_cells.specs.Cells.{CellView}
use Rattle.box_step.specs.declared.nodes.cell.BoxCell.{BoxCell}
use Rattle.box_step.specs.nodes.Openings.{Opening}
use Rattle.box_step.specs.nodes.Right.{IsRightWire}
use Rattle.step_turns.specs.Homes.{IsHome}
use Rattle.step_turns.specs.Rounds.{AllRight, AreInPlace, AreUntil, node_time, time_there}
use Rattle.turn_workers.specs.declared.cells.Group.{Group}
use Rattle.turn_workers.specs.inner.Closed.{AreGroupsBack, AreWiresBack}
use Rattle.turn_workers.specs.inner.Gathered.{AreScattered}

module _ (opened : Opening → Type 0) (core : Core) (g : Grouping) (steps : ℕ) (planned : IsPlan (plan_of core)) (grouping : IsGrouping (plan_of core) g)
    (clock : ℕ → ℕ) (balanced : AreBalanced (quotient (plan_of core) g) clock)
    (ties : (c : ℕ) → c < wires_of (quotient (plan_of core) g) → clock (g.count + c) ≡ wire_time (quotient (plan_of core) g) clock c)
    (groups : List Group) (back : AreGroupsBack opened (plan_of core) g steps clock groups)
    (nodes : List BoxCell) (scattered : AreScattered g groups (length core.nodes) nodes)
    (home : List (Option CellView)) (wires : AreWiresBack opened (plan_of core) g steps clock groups home) where
  member_time : (n : ℕ) (cell : BoxCell) → slice_get nodes n ≡ Some cell → cell.time ≡ clock (group_of g n)
  member_time n cell at =
      let is = scattered.each n cell at in
      (back.right (group_of g n) is.group is.there).times is.place cell is.member ∙ back.time (group_of g n) is.group is.there

  same_time : (n : ℕ) → n < length core.nodes → node_time nodes n ≡ times_by g clock n
  same_time n less =
      let long = scattered.long in
      let at = there nodes n (omega (arith, less, long)) in
      ap time_there at.1 ∙ member_time n at.0 at.1

  same_wire_time : (w : ℕ) → w < wires_of (plan_of core) → wire_time (plan_of core) (times_by g clock) w ≡ wire_time (plan_of core) (node_time nodes) w
  same_wire_time w less =
      let c = same_time (consumer_of (plan_of core) w) (planned.consumers w less) in
      let p = same_time (producer_of (plan_of core) w) (planned.producers w less) in
      omega (arith, c, p)

  -- the group of a wire's producer
  group_there : (w : ℕ) → w < wires_of (plan_of core) → (group : Group) × (slice_get groups (group_of g (producer_of (plan_of core) w)) ≡ Some group)
  group_there w less =
      let low = grouping.groups (producer_of (plan_of core) w) (planned.producers w less) in
      let count = back.count in
      there groups (group_of g (producer_of (plan_of core) w)) (omega (arith, low, count))

  inner_home : (w : ℕ) → w < wires_of (plan_of core) → IsInner (plan_of core) g w → IsHome w (wire_time (plan_of core) (node_time nodes) w) home
  inner_home w less inner =
      let at = group_there w less in
      let i = group_of g (producer_of (plan_of core) w) in
      let was_home = (back.right i at.0 at.1).inner w less inner (sym (back.number i at.0 at.1)) in
      record {
        cell = was_home.cell;
        there = wires.inner w at.0 less inner at.1 ∙ was_home.there;
        number = was_home.number;
        at = was_home.at ∙ back.time i at.0 at.1 ∙ sym (inner_time (plan_of core) g clock w inner) ∙ same_wire_time w less;
      }

  crossing_home : (c w : ℕ) → slice_get g.crossing c ≡ Some w → IsHome w (wire_time (plan_of core) (node_time nodes) w) home
  crossing_home c w at =
      let is = wires.crossing c w at in
      let less = (grouping.crosses c w at).0 in
      record {
        cell = is.cell;
        there = is.there;
        number = is.number;
        at = is.time ∙ ties c (crossing_within (plan_of core) g c w at) ∙ crossing_time (plan_of core) g c w at clock ∙ same_wire_time w less;
      }

  pub back_in_place : AreInPlace core nodes home
  back_in_place = record {
    count = scattered.long;
    numbers = λ n cell at. (scattered.each n cell at).number;
    balanced = λ w less.
        let b = groups_balanced (plan_of core) g grouping clock balanced w less in
        let low = b.not_behind in
        let high = b.not_ahead in
        let c = same_time (consumer_of (plan_of core) w) (planned.consumers w less) in
        let p = same_time (producer_of (plan_of core) w) (planned.producers w less) in
        record { not_behind = omega (arith, c, p, low); not_ahead = omega (arith, c, p, high) };
    wires = λ w less.
        let counted = wires_counted core in
        let inside : w < wires_of (plan_of core) = omega (arith, less, counted) in
        elim (cases_eq (group_of g (producer_of (plan_of core) w)) (group_of g (consumer_of (plan_of core) w))) [
          | inl inner ↦ inner_home w inside inner
          | inr crosses ↦ (let at = grouping.all w inside crosses in crossing_home at.0 w at.1)
        ];
  }

  pub back_until : AreUntil (2 * steps) nodes
  back_until n less =
      let at = there nodes n less in
      let is = scattered.each n at.0 at.1 in
      let group = back.right (group_of g n) is.group is.there in
      let until = group.until in
      let time = group.times is.place at.0 is.member in
      let same : node_time nodes n ≡ at.0.time = ap time_there at.1 in
      omega (arith, until, time, same)

  pub back_right : (opening : Opening) → opened opening → AllRight opening nodes home
  back_right opening is_opened = record {
    each = λ n cell at. (let is = scattered.each n cell at in (back.right (group_of g n) is.group is.there).nodes is.place cell is.member opening is_opened);
    wires = record {
      each = λ w cell found.
          let long = wires.long in
          let within = slice_get_within home w (Some cell) found in
          let inside : w < wires_of (plan_of core) = omega (arith, within, long) in
          elim (cases_eq (group_of g (producer_of (plan_of core) w)) (group_of g (consumer_of (plan_of core) w))) [
            | inl inner ↦ (let at = group_there w inside in
                ((back.right (group_of g (producer_of (plan_of core) w)) at.0 at.1).wires opening is_opened).each w cell
                (sym (wires.inner w at.0 inside inner at.1) ∙ found))
            | inr crosses ↦ (
                let at = grouping.all w inside crosses in
                let is = wires.crossing at.0 w at.1 in
                let same : is.cell ≡ cell = (let both : Some (Some is.cell) ≡ Some (Some cell) = sym is.there ∙ found in cc) in
                subst (IsRightWire opening) same (is.right.right opening is_opened))
          ];
    };
  }
