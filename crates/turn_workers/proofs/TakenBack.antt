-- From the values of a closed locker to groups and wires that are back.
use Rattle.std.proofs.Common.{◌≡◌, ◌+◌, ◌≤◌, ℕ, List, take, length, Option, Some, slice_get, refl, ap, sym, ◌∙◌, subst, arith}
use Rattle.std.specs.Option.{option_map}
use Rattle.std.proofs.lemmas.List.{length-map, length-take-le}
use Rattle.std.proofs.lemmas.Option.{slice_get-map, slice_get_within}
use Rattle.hume_net.specs.declared.plan.Plan.{Plan}
use Rattle.hume_net.specs.Plan.{IsPlan, producer_of, wires_of}
use Rattle.hume_net.proofs.Plans.{there}
use Rattle.model_bare.proofs.Frames.{was_there}
use Rattle.superstep_core.specs.declared.grouping.Grouping.{Grouping}
use Rattle.superstep_core.specs.Groups.{group_of, quotient, IsGrouping}
use Rattle.superstep_core.proofs.Grouped.{crossings_counted}
use Rattle.wire_cells.specs.Cells.{CellView}
use Rattle.box_step.specs.nodes.Openings.{Opening}
use Rattle.step_turns.proofs.Lists.{take_get}
use Rattle.turn_locker.specs.Closing.{AreHome}
use Rattle.turn_locker.specs.Held.{items_of}
use Rattle.turn_workers.specs.declared.cells.Group.{Group as AGroup}
use Rattle.turn_workers.specs.declared.cells.NetCell.{NetCell}
use Rattle.turn_workers.specs.declared.cells.NetCell.TheVariants.{Group, Wire}
use Rattle.turn_workers.specs.declared.items.Item.{Item}
use Rattle.turn_workers.specs.Items.{IsRight, IsWireRight, number_in, time_in}
use Rattle.turn_workers.specs.inner.Closed.{AreGroupsBack, AreWiresBack, IsWireBack}
use Rattle.turn_workers.specs.inner.Gathered.{IsFrontOf}
use Rattle.turn_workers.specs.inner.Itemed.{cells_of, AreItems}
use Rattle.turn_workers.specs.inner.Unstowed.{AreUnstowed, HaveInner}
use Rattle.turn_workers.proofs.Unpacked.{cell_there}

-- the first of the items
pub cells_first : (P : Type 0) (count : ℕ) (items : List (Item P)) → count ≤ length items → (k : ℕ) (cell : NetCell)
    → slice_get (cells_of (take count items)) k ≡ Some cell → slice_get (cells_of items) k ≡ Some cell
cells_first P count items few k cell at =
    let inside = slice_get_within (cells_of (take count items)) k cell at in
    let same = length-map (take count items) (λ (i : Item P). i.cell) in
    let long = length-take-le count items few in
    slice_get-map (λ (i : Item P). i.cell) items k
    ∙ (ap (option_map (λ (i : Item P). i.cell)) (sym (take_get count items k (omega (arith, inside, same, long))))
    ∙ (sym (slice_get-map (λ (i : Item P). i.cell) (take count items) k) ∙ at))

pub items_first : (P : Type 0) (opened : Opening → Type 0) (plan : Plan) (g : Grouping) (steps count : ℕ) (items : List (Item P)) → count ≤ length items
    → AreItems opened plan g steps (cells_of items) → AreItems opened plan g steps (cells_of (take count items))
items_first P opened plan g steps count items few all = record { each = λ item cell at. all.each item cell (cells_first P count items few item cell at) }

module _ (P : Type 0) (opened : Opening → Type 0) (plan : Plan) (g : Grouping) (steps : ℕ) (grouping : IsGrouping plan g) (q : Plan) (is : q ≡ quotient plan g)
    (values : List (Item P))
    (closed : AreHome (λ (i : Item P). number_in i.cell) (λ (i : Item P). time_in i.cell) (λ (i : Item P). IsRight opened plan g steps i.cell) q values) where
  pub long : length values ≡ g.count + length g.crossing
  long = let count = closed.count ∙ ap items_of is in let counted = crossings_counted plan g in omega (arith, count, counted)

  found_item : (item : ℕ) (cell : NetCell) → slice_get (cells_of values) item ≡ Some cell
      → (number_in cell ≡ item) × (time_in cell ≡ closed.clock item) × IsRight opened plan g steps cell
  found_item item cell at =
      let was = was_there (λ (i : Item P). i.cell) values item cell at in
      let inside = slice_get_within values item was.0 was.1 in
      let count = closed.count in
      let found = closed.each_item item (omega (arith, inside, count)) in
      let same : found.0 ≡ was.0 = (let both : Some found.0 ≡ Some was.0 = sym found.1 ∙ was.1 in cc) in
      let here : found.0.cell ≡ cell = ap (λ (i : Item P). i.cell) same ∙ was.2 in
      subst (λ (c : NetCell). (number_in c ≡ item) × (time_in c ≡ closed.clock item) × IsRight opened plan g steps c) here (found.2, found.3, found.4)

  pub all_items : AreItems opened plan g steps (cells_of values)
  all_items = record { each = λ item cell at. let it = found_item item cell at in record { number = it.0; right = it.2 } }

  module _ (groups : List AGroup) (count : length groups ≡ g.count)
      (are : (i : ℕ) (group : AGroup) → slice_get groups i ≡ Some group → slice_get (cells_of values) i ≡ Some (Group group)) where
    pub groups_back : AreGroupsBack opened plan g steps closed.clock groups
    groups_back = record {
      count = count;
      number = λ i group at. (found_item i (Group group) (are i group at)).0;
      time = λ i group at. (found_item i (Group group) (are i group at)).1;
      right = λ i group at. (found_item i (Group group) (are i group at)).2;
    }

    module _ (fewer : List AGroup) (fronts : (i : ℕ) (group : AGroup) → slice_get fewer i ≡ Some group
        → (was : AGroup) × (slice_get groups i ≡ Some was) × IsFrontOf group was) where
      pub have_inner : HaveInner plan g fewer
      have_inner = record {
        each = λ w group less inner at.
            let i = group_of g (producer_of plan w) in
            let front = fronts i group at in
            let home = (groups_back.right i front.0 front.1).inner w less inner (sym (groups_back.number i front.0 front.1)) in
            (home.cell, ap (λ h. slice_get h.items w) front.2.home ∙ home.there);
      }

      module _ (many : length fewer ≡ length groups) (home laid : List (Option CellView)) (places : length home ≡ wires_of plan)
          (wire_there : (item n : ℕ) (cell : CellView) → g.count ≤ item → slice_get (cells_of values) item ≡ Some (Wire cell n)
          → slice_get home cell.number ≡ Some (Some cell))
          (rest : List AGroup) (unstowed : AreUnstowed plan g (wires_of plan) home laid fewer rest) where
        wire_back : (c w item : ℕ) (cell : NetCell) → slice_get g.crossing c ≡ Some w → item ≡ g.count + c → slice_get (cells_of values) item ≡ Some cell
            → IsWireBack opened plan g steps closed.clock laid c w
        wire_back c w item (Group group) at same found =
            absurd (let it = found_item item (Group group) found in let number = it.0 in let low = it.2.is_group in omega (arith, number, low, same))
        wire_back c w item (Wire cell n) at same found =
            let it = found_item item (Wire cell n) found in
            let number = it.0 in
            let by_place = it.2.number in
            let place : it.2.place ≡ c = omega (arith, number, by_place, same) in
            let both : Some cell.number ≡ Some w = sym it.2.crosses ∙ ap (slice_get g.crossing) place ∙ at in
            let is_w : cell.number ≡ w = cc in
            record {
              cell = cell;
              there = unstowed.kept w (grouping.crosses c w at).1 ∙ ap (slice_get home) (sym is_w) ∙ wire_there item n cell (omega (arith, same)) found;
              number = is_w;
              time = it.1 ∙ ap closed.clock same;
              right = subst (IsWireRight opened plan g steps cell) (number ∙ same) it.2;
            }

        pub wires_back : IsPlan plan → AreWiresBack opened plan g steps closed.clock groups laid
        wires_back planned = record {
          long = unstowed.long ∙ places;
          crossing = λ c w at.
              let inside = slice_get_within g.crossing c w at in
              let all = long in
              let value = there values (g.count + c) (omega (arith, inside, all)) in
              wire_back c w (g.count + c) value.0.cell at refl (cell_there values (g.count + c) value.0 value.1);
          inner = λ w group less inner at.
              let i = group_of g (producer_of plan w) in
              let low = slice_get_within groups i group at in
              let left = there fewer i (omega (arith, low, many)) in
              let front = fronts i left.0 left.1 in
              let same : front.0 ≡ group = (let both : Some front.0 ≡ Some group = sym front.1 ∙ at in cc) in
              unstowed.back w left.0 less inner left.1 ∙ ap (λ h. slice_get h.items w) front.2.home ∙ ap (λ (x : AGroup). slice_get x.home.items w) same;
        }
