use Rattle.std.proofs.Common.{◌≡◌, length, slice_index_or, refl, arith}
use Rattle.std.proofs.lemmas.Option.{slice_get_read}
use Rattle.hume_net.specs.Plan.{producer_of}
use Rattle.superstep_core.specs.Groups.{group_of, IsInner}
use Rattle.turn_workers.proofs.Unstowed.{cell_there, one_back, one_stays}
use Rattle.turn_workers.proofs.unpacking.unstow_one.Goals as goal

pub lift_at-cell-requires : goal.lift_at-cell-requires
lift_at-cell-requires c =
    let plan = c.args.plan.now in
    let shape = c.args.shape.now in
    let groups = c.args.groups.now.items in
    let i = slice_index_or c.deref.result.now (slice_index_or c.deref-2.result.now c.args.w 0) 0 in
    let group = c.index_mut.result.now in
    let a = c.deref.ensures in let b = c.deref-2.ensures in let d = c.deref-3.ensures in let e = c.deref-4.ensures in
    let same = c.if-a-deref.false in
    let inner : IsInner plan shape c.args.w = cc in
    let mine : group_of shape (producer_of plan c.args.w) ≡ i = cc in
    let low = c.requires.shape.below (producer_of plan c.args.w) (c.requires.plan.0.producers c.args.w c.requires.plan.1) in
    let there = slice_get_read groups (length groups) i group refl (omega (arith, low, mine)) c.index_mut.ensures.value in
    let some = c.requires.so_far in
    cell_there plan shape c.args.w some.0 c.args.home.now.items some.1 groups some.3 inner c.requires.plan.1 i mine group group there some.2

pub returns-then-a-deref : goal.returns-then-a-deref
returns-then-a-deref c = λ old before so_far.
    one_stays c.args.plan.now c.args.shape.now c.args.w old c.args.home.now.items before c.args.groups.now.items so_far
    (λ inner. c.if-a-deref.true (let a = c.deref.ensures in let b = c.deref-2.ensures in let d = c.deref-3.ensures in let e = c.deref-4.ensures in
    let i : IsInner c.args.plan.now c.args.shape.now c.args.w = inner in cc))

pub returns : goal.returns
returns c = λ old before so_far.
    let plan = c.args.plan.now in
    let shape = c.args.shape.now in
    let groups = c.args.groups.now.items in
    let i = slice_index_or c.deref.result.now (slice_index_or c.deref-2.result.now c.args.w 0) 0 in
    let group = c.index_mut.result.now in
    let a = c.deref.ensures in let b = c.deref-2.ensures in let d = c.deref-3.ensures in let e = c.deref-4.ensures in
    let same = c.if-a-deref.false in
    let inner : IsInner plan shape c.args.w = cc in
    let mine : group_of shape (producer_of plan c.args.w) ≡ i = cc in
    let low = c.requires.shape.below (producer_of plan c.args.w) (c.requires.plan.0.producers c.args.w c.requires.plan.1) in
    let there = slice_get_read groups (length groups) i group refl (omega (arith, low, mine)) c.index_mut.ensures.value in
    let long = c.requires.plan.2 in
    let less = c.requires.plan.1 in
    one_back plan shape c.args.w old c.args.home.now.items before groups so_far inner less i mine group c.lift_at-cell.new.group there
    c.lift_at-cell.result c.lift_at-cell.ensures.cell (omega (arith, long, less)) c.lift_at-cell.ensures.home
