use Rattle.std.proofs.Common.{◌≡◌, ℕ, suc, true, take, sym, ap, subst, ◌∙◌, add-one}
use Rattle.check_typing.specs.inner.Walk.{walk, arm_walks_open}
use Rattle.check_tasks.specs.Tasks.{arm_walks}
use Rattle.check_expressions.proofs.Opening.{one_more_arm_open}
use Rattle.check_expressions.proofs.open.first_closed_arm.Goals as goal

pub loop-place-preserved : goal.loop-place-preserved
loop-place-preserved c = subst (λ n. arm_walks_open (arm_walks c.args.at.now.0.2 (take n c.args.arms.now)) ≡ true) (sym (add-one c.loop-place.place))
    (one_more_arm_open c.args.at.now.0.2 c.args.arms.now c.loop-place.place c.index-arms-place.result c.loop-place-test.true (sym c.index-arms-place.is) c.loop-place.invariant
    (ap (λ arm. (walk c.args.at.now.0.2 arm.1).is_open) c.index-arms-place.is ∙ sym c.is_open.ensures ∙ c.if-not-is_open.false))
