use Rattle.std.proofs.Common.{rules, ◌≡◌, ℕ, ◌-◌, length, take, vec_len, Some, slice_get, sym, ap, ◌∙◌, subst, inl, inr, arith}
use Rattle.std.proofs.lemmas.List.{take-take}
use Rattle.turn_workers.specs.declared.cells.Group.{Group as AGroup}
use Rattle.turn_workers.specs.declared.cells.NetCell.TheVariants.{Group}
use Rattle.turn_workers.specs.inner.Itemed.{cells_of, AreGroupsOff}
use Rattle.turn_workers.proofs.Members.{one_more}
use Rattle.turn_workers.proofs.Unpacked.{taken_item, in_order}
use Rattle.turn_workers.proofs.unpacking.unpack_groups.Goals as goal

pub into_group-requires-clause-number : goal.into_group-requires-clause-number
into_group-requires-clause-number g c = λ κs le.
    let count = c.unpacking.invariant.count in
    let shorter = c.in-Some.ensures.len in let ok = c.pop.new.self.ok.0 in
    let it = taken_item g.O.Opens.opened g.O.Opens.plan g.O.Opens.grouping g.O.Opens.steps (vec_len c.unpacking.items) c.args.items.items c.unpacking.items.items c.pop.new.self.items c.in-Some.item
    c.requires.items c.unpacking.invariant.left c.in-Some.ensures.items (omega (arith, shorter, ok)) in
    let number = it.1.number in omega (arith, number, shorter, ok, count)

pub into_group-requires-clause-right : goal.into_group-requires-clause-right
into_group-requires-clause-right g c = λ κs le.
    let shorter = c.in-Some.ensures.len in let ok = c.pop.new.self.ok.0 in
    let it = taken_item g.O.Opens.opened g.O.Opens.plan g.O.Opens.grouping g.O.Opens.steps (vec_len c.unpacking.items) c.args.items.items c.unpacking.items.items c.pop.new.self.items c.in-Some.item
    c.requires.items c.unpacking.invariant.left c.in-Some.ensures.items (omega (arith, shorter, ok)) in
    it.1.right

pub unpacking-preserved : goal.unpacking-preserved
unpacking-preserved g c =
    let count = c.unpacking.invariant.count in
    let shorter = c.in-Some.ensures.len in let ok = c.pop.new.self.ok.0 in
    let it = taken_item g.O.Opens.opened g.O.Opens.plan g.O.Opens.grouping g.O.Opens.steps (vec_len c.unpacking.items) c.args.items.items c.unpacking.items.items c.pop.new.self.items c.in-Some.item
    c.requires.items c.unpacking.invariant.left c.in-Some.ensures.items (omega (arith, shorter, ok)) in
    let more = c.push_reserved.ensures.len in
    let groups_ok = c.unpacking.groups.ok.0 in
    let place : length c.pop.new.self.items ≡ g.O.Opens.grouping.count - 1 - length c.unpacking.groups.items = omega (arith, shorter, ok, count, groups_ok) in
    let here = ap (slice_get (cells_of c.args.items.items)) (sym place) ∙ (it.0 ∙ ap (λ x. Some x) c.into_group.ensures) in
    record {
      left = c.in-Some.ensures.rest ∙ (ap (take (vec_len c.unpacking.items - 1)) c.unpacking.invariant.left
          ∙ (take-take (vec_len c.unpacking.items - 1) (vec_len c.unpacking.items) c.args.items.items (omega arith)
          ∙ ap (λ n. take n c.args.items.items) (let e : vec_len c.unpacking.items - 1 ≡ vec_len c.pop.new.self = omega (arith, shorter) in e)));
      count = omega (arith, shorter, more, count);
      room = (let room = c.unpacking.invariant.room in let same = c.push_reserved.ensures.capacity in omega (arith, room, same));
      back = subst (AreGroupsOff g.O.Opens.grouping.count (cells_of c.args.items.items)) (sym c.push_reserved.ensures.items) (record {
        each = λ k group at. elim (one_more c.unpacking.groups.items c.into_group.result k group at) [
          | inl before ↦ c.unpacking.invariant.back.each k group before
          | inr last ↦ subst (λ (q : ℕ × AGroup). slice_get (cells_of c.args.items.items) (g.O.Opens.grouping.count - 1 - q.0) ≡ Some (Group q.1)) (λ i. (sym last.0 i, last.1 i)) here
        ];
      });
    }

pub returns-clause-groups : goal.returns-clause-groups
returns-clause-groups g c = λ n cell at.
    let count = c.unpacking.invariant.count in let ok = c.unpacking.groups.ok.0 in
    let empty : vec_len c.unpacking.items ≡ 0 = search rules in
    in_order g.O.Opens.grouping.count (cells_of c.args.items.items) c.unpacking.groups.items c.unpacking.invariant.back (omega (arith, count, ok, empty)) n cell
    (ap (λ xs. slice_get xs n) (sym c.reverse.ensures.items) ∙ at)
