use Rattle.std.proofs.Common.{◌≡◌, ◌+◌, length, slice_index_or, slice_set, refl, sym, ◌∙◌, subst, arith}
use Rattle.std.proofs.lemmas.Option.{slice_get_read}
use Rattle.hume_net.specs.Plan.{producer_of}
use Rattle.superstep_core.specs.Groups.{group_of, IsInner}
use Rattle.turn_workers.specs.inner.Gathered.{AreStowed}
use Rattle.turn_workers.proofs.Stowed.{cell_at, one_left, one_stowed}
use Rattle.turn_workers.proofs.stowing.stow_one.Goals as goal

pub take_from-cell-requires : goal.take_from-cell-requires
take_from-cell-requires c =
    let some = c.requires.so_far in
    (some.2.0, cell_at c.args.plan.now c.args.shape.now c.args.w some.0 c.args.home.now.items some.1 c.args.groups.now.items some.3 ∙ some.2.1)

pub returns-then-a-deref-clause-more : goal.returns-then-a-deref-clause-more
returns-then-a-deref-clause-more c = λ old before so_far.
    one_left c.args.plan.now c.args.shape.now c.args.w old c.args.home.now.items before c.args.groups.now.items so_far
    (λ inner. c.if-a-deref.true (let a = c.deref.ensures in let b = c.deref-2.ensures in let d = c.deref-3.ensures in let e = c.deref-4.ensures in
    let i : IsInner c.args.plan.now c.args.shape.now c.args.w = inner in cc))

pub returns-clause-more : goal.returns-clause-more
returns-clause-more c = λ old before so_far.
    let plan = c.args.plan.now in
    let shape = c.args.shape.now in
    let groups = c.args.groups.now.items in
    let i = slice_index_or c.deref.result.now (slice_index_or c.deref-2.result.now c.args.w 0) 0 in
    let group = c.index_mut.result.now in
    let a = c.deref.ensures in let b = c.deref-2.ensures in let d = c.deref-3.ensures in let e = c.deref-4.ensures in
    let same = c.if-a-deref.false in
    let inner : IsInner plan shape c.args.w = cc in
    let mine : group_of shape (producer_of plan c.args.w) ≡ i = cc in
    let low = c.requires.shape.below (producer_of plan c.args.w) (c.requires.plan.0.producers c.args.w c.requires.plan.1) in
    let there = slice_get_read groups (length groups) i group refl (omega (arith, low, mine)) c.index_mut.ensures.value in
    subst (λ h. AreStowed plan shape (c.args.w + 1) old h before (slice_set groups i c.lay_at.new.group)) (sym c.take_from-cell.ensures.home)
    (one_stowed plan shape c.args.w old c.args.home.now.items before groups so_far inner c.requires.plan.1 i mine group c.lay_at.new.group there
    c.take_from-cell.result c.take_from-cell.ensures.cell c.lay_at.ensures.home c.lay_at.ensures.rest.0 c.lay_at.ensures.rest.1 c.lay_at.ensures.rest.2)
