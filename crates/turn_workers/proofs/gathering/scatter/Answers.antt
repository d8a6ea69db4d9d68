use Rattle.std.proofs.Common.{◌≡◌, ◌+◌, ◌-◌, [], length, slice_get, slice_index_or, refl, ap, sym, ◌∙◌, subst, arith}
use Rattle.std.specs.Prelude.{slice_index}
use Rattle.std.proofs.lemmas.List.{length-set}
use Rattle.std.proofs.lemmas.Option.{slice_get_read, slice_get_within}
use Rattle.superstep_core.specs.Groups.{group_of}
use Rattle.step_turns.proofs.Lists.{last_get}
use Rattle.turn_workers.specs.Members.{members_from}
use Rattle.turn_workers.specs.inner.Gathered.{AreScattered}
use Rattle.turn_workers.proofs.GroupedCells.{fronts_left, last_member, one_scattered, one_shorter, others_left, some_member}
use Rattle.turn_workers.proofs.gathering.scatter.Goals as goal

pub loop-n-init : goal.loop-n-init
loop-n-init c =
    let ok = c.args.nodes.now.ok.0 in
    let none = c.requires.room.0 in
    let same : c.args.count ≡ c.args.count - 0 = omega arith in
    record {
      nodes = record {
        long = omega (arith, ok, none);
        each = λ n cell at. absurd (let inside = slice_get_within c.args.nodes.now.items n cell at in omega (arith, inside, ok, none));
      };
      capacity = refl;
      left = λ i group at. c.requires.groups i group at ∙ ap (members_from c.args.shape.now i 0) same;
      fronts = λ i group at. (group, at, record { members = λ k cell found. found; number = refl; time = refl; home = refl });
      many = refl;
    }

pub take_member-cell-requires : goal.take_member-cell-requires
take_member-cell-requires c =
    let shape = c.args.shape.now in
    let groups = c.loop-n.groups in
    let n = c.loop-n.n in
    let i = slice_index_or c.deref.result.now n 0 in
    let group = c.index_mut.result.now in
    let less = c.loop-n-test.true in
    let mine : group_of shape n ≡ i = ap (λ xs. slice_index xs n) (sym c.deref.ensures) in
    let low = c.requires.shape.below n less in
    let many = c.loop-n.invariant.many in
    let there = slice_get_read groups.items (length groups.items) i group refl (omega (arith, low, mine, many)) c.index_mut.ensures.value in
    some_member shape c.args.count 0 [] groups.items n (n + 1) i refl less mine group group there (c.loop-n.invariant.left i group there)

pub loop-n-preserved : goal.loop-n-preserved
loop-n-preserved c =
    let shape = c.args.shape.now in
    let groups = c.loop-n.groups in
    let n = c.loop-n.n in
    let i = slice_index_or c.deref.result.now n 0 in
    let group = c.index_mut.result.now in
    let less = c.loop-n-test.true in
    let mine : group_of shape n ≡ i = ap (λ xs. slice_index xs n) (sym c.deref.ensures) in
    let low = c.requires.shape.below n less in
    let many = c.loop-n.invariant.many in
    let there = slice_get_read groups.items (length groups.items) i group refl (omega (arith, low, mine, many)) c.index_mut.ensures.value in
    let new = c.take_member-cell.new.group in
    let cell = c.take_member-cell.result in
    let rest = c.take_member-cell.ensures.rest in
    let last = last_member shape c.args.count 0 [] groups.items n (n + 1) i refl less mine group new there new.members.items cell
    (c.loop-n.invariant.left i group there) c.take_member-cell.ensures.members in
    let was = c.loop-n.invariant.fronts i group there in
    record {
      nodes = subst (AreScattered shape c.args.groups.now.items (n + 1)) (sym c.push_reserved.ensures.items)
          (one_scattered shape c.args.groups.now.items n c.loop-n.nodes.items cell c.loop-n.invariant.nodes (record {
            group = was.0;
            place = length new.members.items;
            there = ap (slice_get c.args.groups.now.items) mine ∙ was.1;
            member = was.2.members (length new.members.items) cell
                (ap (λ xs. slice_get xs (length new.members.items)) c.take_member-cell.ensures.members ∙ last_get new.members.items cell);
            number = last.1;
          }));
      capacity = c.push_reserved.ensures.capacity ∙ c.loop-n.invariant.capacity;
      left = others_left shape c.args.count 0 [] groups.items n (n + 1) i refl less mine group new there c.loop-n.invariant.left last.0;
      fronts = fronts_left shape c.args.count 0 [] groups.items n (n + 1) i refl less mine group new there c.args.groups.now.items c.loop-n.invariant.fronts
          (λ was front. one_shorter group new was cell c.take_member-cell.ensures.members rest.0 rest.1 rest.2 front);
      many = length-set groups.items i new ∙ many;
    }
