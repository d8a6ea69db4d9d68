-- The groups of a round that begins, and the crossing wires that are left at home, are right at time 0.
use Rattle.std.proofs.Common.{◌≡◌, ◌-◌, ◌<◌, ℕ, List, length, Option, Some, slice_get, refl, ap, sym, ◌∙◌, subst, arith}
use Rattle.std.proofs.lemmas.Option.{slice_get_within}
use Rattle.hume_model.specs.declared.core_tree.Core.{Core}
use Rattle.hume_net.specs.declared.plan.Plan.{Plan}
use Rattle.hume_net.specs.Plan.{plan_of, producer_of, consumer_of, wires_of, IsPlan}
use Rattle.hume_net.specs.Times.{wire_time}
use Rattle.hume_net.proofs.Plans.{there, wires_counted}
use Rattle.superstep_core.specs.declared.grouping.Grouping.{Grouping}
use Rattle.superstep_core.specs.Groups.{IsGrouping}
use Rattle.wire_cells.specs.Cells.{CellView}
use Rattle.box_step.specs.declared.nodes.cell.BoxCell.{BoxCell}
use Rattle.box_step.specs.nodes.Openings.{Opening}
use Rattle.step_turns.specs.Homes.{IsHome}
use Rattle.step_turns.specs.Rounds.{AllRight, AreInPlace, AreUntil, node_time, time_there}
use Rattle.turn_workers.specs.declared.cells.Group.{Group}
use Rattle.turn_workers.specs.Members.{members_from, numbers_of}
use Rattle.turn_workers.specs.inner.Gathered.{AreGathered, AreStowed}
use Rattle.turn_workers.specs.inner.Placed.{AreCrossingAtRest, AreGroupsAtRest}

-- before any wire is moved
pub none_stowed : (plan : Plan) (g : Grouping) (nodes from : ℕ) (cells : List BoxCell) (home : List (Option CellView)) (groups : List Group)
    → AreGathered g nodes (wires_of plan) from cells groups → AreStowed plan g 0 home home groups groups
none_stowed plan g nodes from cells home groups are = record {
  each = λ i group at. let is = are.each i group at in record {
    there = λ v less. absurd (omega (arith, less));
    from = λ v cell found. absurd (is.bare v cell found);
    long = is.long;
  };
  same = λ i group at. (group, at, record { number = refl; time = refl; members = refl });
  kept = λ v out. refl;
  count = refl;
  long = refl;
}

module _ (opened : Opening → Type 0) (core : Core) (g : Grouping) (steps : ℕ) (planned : IsPlan (plan_of core)) (grouping : IsGrouping (plan_of core) g)
    (nodes : List BoxCell) (home : List (Option CellView)) (place : AreInPlace core nodes home) (begun : AreUntil 0 nodes)
    (right : (opening : Opening) → opened opening → AllRight opening nodes home) where
  at_zero : (n : ℕ) → n < length core.nodes → node_time nodes n ≡ 0
  at_zero n less = let count = place.count in let until = begun n (omega (arith, less, count)) in omega (arith, until)

  wire_home : (w : ℕ) → w < wires_of (plan_of core) → IsHome w 0 home
  wire_home w less =
      let counted = wires_counted core in
      let c = at_zero (consumer_of (plan_of core) w) (planned.consumers w less) in
      let p = at_zero (producer_of (plan_of core) w) (planned.producers w less) in
      let zero_time : wire_time (plan_of core) (node_time nodes) w ≡ 0 = omega (arith, c, p) in
      subst (λ t. IsHome w t home) zero_time (place.wires w (omega (arith, less, counted)))

  cell_zero : (n : ℕ) (cell : BoxCell) → slice_get nodes n ≡ Some cell → cell.time ≡ 0
  cell_zero n cell at =
      let inside = slice_get_within nodes n cell at in
      let count = place.count in
      sym (ap time_there at) ∙ at_zero n (omega (arith, inside, count))

  module _ (left : List (Option CellView)) (before groups : List Group) (gathered : AreGathered g (length core.nodes) (wires_of (plan_of core)) 0 nodes before)
      (stowed : AreStowed (plan_of core) g (wires_of (plan_of core)) home left before groups) (many : length before ≡ g.count) where
    pub groups_at_rest : AreGroupsAtRest opened (plan_of core) g steps groups
    groups_at_rest = record {
      each = λ i group at.
          let was = stowed.same i group at in
          let is = gathered.each i was.0 was.1 in
          let in_group = stowed.each i group at in
          let same = was.2 in
          let inside = slice_get_within groups i group at in
          let count = stowed.count in
          let number = same.number ∙ is.is in
          let time = same.time ∙ is.begun in
          let whole : length core.nodes - 0 ≡ length core.nodes = omega arith in
          let members = ap (λ m. m.items) same.members in
          record {
            number = number;
            begun = time;
            right = record {
              is_group = omega (arith, number, inside, count, many);
              until = omega (arith, time);
              numbers = ap numbers_of members ∙ is.numbers ∙ (λ p. members_from g (sym number p) 0 (whole p));
              times = λ k cell found. cell_zero cell.number cell (is.of k cell (ap (λ xs. slice_get xs k) (sym members) ∙ found)) ∙ sym time;
              nodes = λ k cell found opening op. (right opening op).each cell.number cell (is.of k cell (ap (λ xs. slice_get xs k) (sym members) ∙ found));
              long = in_group.long;
              inner = λ w less inner mine. subst (λ t. IsHome w t group.home.items) (sym time)
                  (let was_home = wire_home w less in record {
                    cell = was_home.cell;
                    there = in_group.there w less inner (mine ∙ number) ∙ was_home.there;
                    number = was_home.number;
                    at = was_home.at;
                  });
              wires = λ opening op. record { each = λ w cell found. (right opening op).wires.each w cell (in_group.from w cell found) };
            };
          };
    }

    pub crossing_at_rest : AreCrossingAtRest opened g steps (length g.crossing) left
    crossing_at_rest = record {
      each = λ c w less at.
          let crosses = grouping.crosses c w at in
          let was_home = wire_home w crosses.0 in
          let there = stowed.kept w (λ _. crosses.1) ∙ was_home.there in (
            was_home.cell,
            there,
            record {
              crosses = at ∙ ap (λ n. Some n) (sym was_home.number);
              begun = was_home.at;
              right = λ opening op. (right opening op).wires.each w was_home.cell was_home.there;
            },
          );
    }
