-- A group with cells of its side: one more, one less, and all of them one half step later.
use Rattle.std.proofs.Common.{◌≡◌, ◌+◌, ◌*◌, ◌<◌, ◌≤◌, ℕ, List, length, Option, None, Some, slice_get, slice_set, refl, ap, sym, ◌∙◌, subst, inl, inr, arith}
use Rattle.std.specs.Prelude.{slice_index}
use Rattle.std.proofs.lemmas.Bool.{cases_eq}
use Rattle.std.proofs.lemmas.List.{length-set, length-map}
use Rattle.std.proofs.lemmas.Option.{slice_get-get_or, slice_get_within, get_or_from_slice_get}
use Rattle.hume_net.specs.declared.plan.Plan.{Plan}
use Rattle.hume_net.specs.Plan.{IsPlan, wires_of, producer_of, consumer_of}
use Rattle.hume_net.specs.Times.{mover, IsOfSide}
use Rattle.superstep_core.specs.declared.grouping.Grouping.{Grouping}
use Rattle.superstep_core.specs.Groups.{group_of, quotient, IsGrouping, IsInner}
use Rattle.superstep_core.proofs.Grouped.{crossing_mover, crossing_within, inner_mover}
use Rattle.superstep_core.proofs.Times.{parity, if_even, if_odd}
use Rattle.wire_cells.specs.Cells.{CellView}
use Rattle.wire_cells.specs.Homes.{AreApart}
use Rattle.wire_cells.proofs.AtHome.{set_here, set_elsewhere}
use Rattle.box_step.specs.nodes.Openings.{Opening}
use Rattle.box_step.specs.nodes.Right.{IsRightWire}
use Rattle.box_step.specs.declared.nodes.cell.BoxCell.{BoxCell}
use Rattle.step_turns.specs.Homes.{IsHome}
use Rattle.turn_workers.specs.Items.{IsGroup, IsWireRight}
use Rattle.turn_workers.specs.Members.{numbers_of}
use Rattle.turn_workers.specs.inner.Halves.{IsHeld, IsMidway}
use Rattle.turn_workers.specs.inner.Stacks.{IsSide}
use Rattle.turn_workers.proofs.Members.{all_apart, is_member, member_is}
use Rattle.turn_workers.proofs.Midway.{home_by}

mover_within : (plan : Plan) → IsPlan plan → (time w : ℕ) → w < wires_of plan → mover plan time w < plan.nodes
mover_within plan planned time w less = elim (parity time) [
  | inl even ↦ (let e = if_even time (consumer_of plan w) (producer_of plan w) even in let low = planned.consumers w less in
      let same : mover plan time w ≡ consumer_of plan w = e in omega (arith, same, low))
  | inr odd ↦ (let e = if_odd time (consumer_of plan w) (producer_of plan w) odd in let low = planned.producers w less in
      let same : mover plan time w ≡ producer_of plan w = e in omega (arith, same, low))
]

module _ (opened : Opening → Type 0) (plan : Plan) (g : Grouping) (steps : ℕ) (grouping : IsGrouping plan g) (number time : ℕ) (members : List BoxCell) where
  -- a place that isn't that of an inner wire may have any cell that is right, or none
  set_group : (home : List (Option CellView)) (w : ℕ) (place : Option CellView) → IsGroup opened plan g steps number time members home
      → (IsInner plan g w → ⊥) → w < length home
      → ((cell : CellView) → place ≡ Some cell → (opening : Opening) → opened opening → IsRightWire opening cell)
      → IsGroup opened plan g steps number time members (slice_set home w place)
  set_group home w place group crosses inside right = record {
    is_group = group.is_group;
    until = group.until;
    numbers = group.numbers;
    times = group.times;
    nodes = group.nodes;
    long = length-set home w place ∙ group.long;
    inner = λ v less inner mine. home_by v time home (slice_set home w place)
        (set_elsewhere home w v place (λ e. crosses (subst (IsInner plan g) (sym e) inner))) (group.inner v less inner mine);
    wires = λ opening is. record {
      each = λ v cell found. elim (cases_eq v w) [
        | inl same ↦ right cell (let both : Some place ≡ Some (Some cell) = sym (set_here home w place inside)
            ∙ ap (slice_get (slice_set home w place)) (sym same) ∙ found in cc) opening is
        | inr other ↦ (group.wires opening is).each v cell (sym (set_elsewhere home w v place (λ e. other (sym e))) ∙ found)
      ];
    };
  }

  module _ (side : List ℕ) (once : (j k : ℕ) → j < length side → k < length side → slice_index side j ≡ slice_index side k → j ≡ k) (k c w : ℕ) (here : slice_get side k ≡ Some c)
      (at : slice_get g.crossing c ≡ Some w) (home : List (Option CellView)) where
    once_only : (j d v : ℕ) → slice_get side j ≡ Some d → slice_get g.crossing d ≡ Some v → (j ≡ k → ⊥) → w ≡ v → ⊥
    once_only j d v found there apart same =
        let one : c ≡ d = grouping.once c d w at (there ∙ ap (λ x. Some x) (sym same)) in
        apart (once j k (slice_get_within side j d found) (slice_get_within side k c here)
        (get_or_from_slice_get side j d 0 found ∙ sym one ∙ sym (get_or_from_slice_get side k c 0 here)))

    pub inside_home : IsGroup opened plan g steps number time members home → w < length home
    inside_home group = let less = (grouping.crosses c w at).0 in let long = group.long in omega (arith, less, long)

    -- one cell more
    pub one_laid : IsHeld opened plan g steps side k number time members home → (cell : CellView) → cell.number ≡ w → cell.time ≡ time
        → ((opening : Opening) → opened opening → IsRightWire opening cell)
        → IsHeld opened plan g steps side (k + 1) number time members (slice_set home w (Some cell))
    one_laid held cell is_number is_time right = record {
      group = set_group home w (Some cell) held.group (grouping.crosses c w at).1 (inside_home held.group)
          (λ other e. let same : cell ≡ other = cc in subst (λ (x : CellView). (opening : Opening) → opened opening → IsRightWire opening x) same right);
      claimed = λ j d v before found there. elim (cases_eq j k) [
        | inl same ↦ (
            let one : Some d ≡ Some c = sym found ∙ ap (slice_get side) same ∙ here in
            let d_is : d ≡ c = cc in
            let two : Some v ≡ Some w = sym there ∙ ap (slice_get g.crossing) d_is ∙ at in
            let v_is : v ≡ w = cc in
            record {
              cell = cell;
              there = ap (slice_get (slice_set home w (Some cell))) v_is ∙ set_here home w (Some cell) (inside_home held.group);
              number = is_number ∙ sym v_is;
              at = is_time;
            })
        | inr apart ↦ home_by v time home (slice_set home w (Some cell)) (set_elsewhere home w v (Some cell) (once_only j d v found there apart))
            (held.claimed j d v (omega (arith, before, apart)) found there)
      ];
    }

    -- one cell less
    pub one_lifted : IsHeld opened plan g steps side (k + 1) number time members home
        → IsHeld opened plan g steps side k number time members (slice_set home w None)
    one_lifted held = record {
      group = set_group home w None held.group (grouping.crosses c w at).1 (inside_home held.group) (λ cell e. absurd (none_some e));
      claimed = λ j d v before found there. home_by v time home (slice_set home w None)
          (set_elsewhere home w v None (once_only j d v found there (λ e. omega (arith, e, before))))
          (held.claimed j d v (omega (arith, before)) found there);
    }
      where
        none_some : {X : Type 0} {x : X} → None ≡ Some x → ⊥
        none_some e = cc

    -- the cell that is lifted
    pub top_home : IsHeld opened plan g steps side (k + 1) number time members home → IsHome w time home
    top_home held = held.claimed k c w (omega arith) here at

    pub top_right : IsHeld opened plan g steps side (k + 1) number time members home → (cell : CellView) → slice_get home w ≡ Some (Some cell)
        → (cell.time ≡ time) × IsWireRight opened plan g steps cell (g.count + c)
    top_right held cell found =
        let top = top_home held in
        let same : top.cell ≡ cell = (let both : Some (Some top.cell) ≡ Some (Some cell) = sym top.there ∙ found in cc) in
        let now : cell.time ≡ time = ap (λ (x : CellView). x.time) (sym same) ∙ top.at in
        let until = held.group.until in (
          now,
          record {
            place = c;
            number = refl;
            crosses = at ∙ ap (λ n. Some n) (sym top.number ∙ ap (λ (x : CellView). x.number) same);
            until = omega (arith, now, until);
            right = λ opening is. (held.group.wires opening is).each w cell found;
          },
        )

  module _ (side : List ℕ) (is : IsSide (quotient plan g) time number side) (home : List (Option CellView)) where
    -- with its whole side at home, the members may make their half steps
    pub all_ready : IsHeld opened plan g steps side (length side) number time members home
        → IsMidway opened plan time 0 (numbers_of members) members home
    all_ready held = record {
      same = refl;
      apart = subst AreApart (sym held.group.numbers) (all_apart g number 0 plan.nodes);
      are_nodes = λ j n at. (let it = mine j n at in let high = it.1 in omega (arith, high));
      behind = λ j cell found before. absurd (omega (arith, before));
      ahead = λ j cell found from. held.group.times j cell found;
      nodes = held.group.nodes;
      moved = λ w j less at before. absurd (omega (arith, before));
      unmoved = λ w j less at from.
          let owner = (mine j (mover plan time w) at).2 in
          elim (cases_eq (group_of g (producer_of plan w)) (group_of g (consumer_of plan w))) [
            | inl inner ↦ held.group.inner w less inner (sym (inner_mover plan g time w inner) ∙ owner)
            | inr crosses ↦ (
                let there = grouping.all w less crosses in
                let place = is.all there.0 (crossing_within plan g there.0 w there.1, crossing_mover plan g there.0 w there.1 time ∙ owner) in
                held.claimed place.0 there.0 w place.1 (slice_get-get_or side place.0 0 place.1 ∙ ap (λ x. Some x) place.2) there.1)
          ];
      wires = held.group.wires;
    }
      where
        mine : (j n : ℕ) → slice_get (numbers_of members) j ≡ Some n → (0 ≤ n) × (n < 0 + plan.nodes) × (group_of g n ≡ number)
        mine j n at = member_is g number 0 plan.nodes j n (ap (λ xs. slice_get xs j) (sym held.group.numbers) ∙ at)

    -- and afterwards the group is one half step later
    module _ (planned : IsPlan plan) (held : IsHeld opened plan g steps side (length side) number time members home) (early : time < 2 * steps)
        (later : List BoxCell) (laid : List (Option CellView)) (made : IsMidway opened plan time (length members) (numbers_of members) later laid)
        (count : length later ≡ length members) (long : length laid ≡ length home) where
      moved_by : (w : ℕ) → w < wires_of plan → group_of g (mover plan time w) ≡ number → IsHome w (time + 1) laid
      moved_by w less owner =
          let within = mover_within plan planned time w less in
          let at = is_member g number 0 plan.nodes (mover plan time w) (omega arith) (omega (arith, within)) owner in
          let there = ap (λ xs. slice_get xs at.0) held.group.numbers ∙ at.1 in
          let inside = slice_get_within (numbers_of members) at.0 (mover plan time w) there in
          let same = length-map members (λ (cell : BoxCell). cell.number) in
          made.moved w at.0 less there (omega (arith, inside, same))

      pub all_made : IsHeld opened plan g steps side (length side) number (time + 1) later laid
      all_made = record {
        group = record {
          is_group = held.group.is_group;
          until = omega (arith, early);
          numbers = made.same ∙ held.group.numbers;
          times = λ j cell found. (let inside = slice_get_within later j cell found in made.behind j cell found (omega (arith, inside, count)));
          nodes = made.nodes;
          long = long ∙ held.group.long;
          inner = λ w less inner mine. moved_by w less (inner_mover plan g time w inner ∙ mine);
          wires = made.wires;
        };
        claimed = λ j c w before found there.
            let near = slice_get_within side j c found in
            let of_side = subst (IsOfSide (quotient plan g) time number) (get_or_from_slice_get side j c 0 found) (is.of_side j near) in
            moved_by w (grouping.crosses c w there).0 (sym (crossing_mover plan g c w there time) ∙ of_side.1);
      }

  -- a group that is right holds no wire of a side
  pub none_held : (side : List ℕ) (home : List (Option CellView)) → IsGroup opened plan g steps number time members home
      → IsHeld opened plan g steps side 0 number time members home
  none_held side home group = record { group = group; claimed = λ j c w before found there. absurd (omega (arith, before)) }

-- the same group
pub held_same : (opened : Opening → Type 0) (plan : Plan) (g : Grouping) (steps : ℕ) (side : List ℕ) (k : ℕ) {n m t u : ℕ} {members others : List BoxCell}
    {home laid : List (Option CellView)} → m ≡ n → u ≡ t → others ≡ members → laid ≡ home
    → IsHeld opened plan g steps side k n t members home → IsHeld opened plan g steps side k m u others laid
held_same opened plan g steps side k e f h l held =
    subst (λ (q : ℕ × ℕ × List BoxCell × List (Option CellView)). IsHeld opened plan g steps side k q.0 q.1 q.2 q.3) (λ i. (sym e i, sym f i, sym h i, sym l i)) held
