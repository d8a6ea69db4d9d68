use Rattle.std.proofs.Common.{◌≡◌, None, take}
use Rattle.std.specs.Prelude.{◌+◌, ◌*◌, max}
use denote.Param.Weighed.{most}
use Rattle.hume_model.specs.declared.core_tree.Expr.{size-Expr}
use Rattle.hume_model.proofs.Ranks.{arms_size}
use Rattle.calculus_unfolding.specs.inner.Changes.{alone, arm_changed, expression_changed, first_changed}
use Rattle.calculus_unfolding.proofs.Measures.{part_size}
use Rattle.calculus_unfolding.proofs.unfolding.+unfold.Given as goal

abbrev pub decreases-unfold : goal.decreases-unfold
decreases-unfold l = 6 * size-Expr l.e.now + 1

abbrev pub decreases-unfold_two : goal.decreases-unfold_two
decreases-unfold_two l = 6 * max (size-Expr l.first.now) (size-Expr l.second.now) + 2

abbrev pub decreases-unfold_three : goal.decreases-unfold_three
decreases-unfold_three l = 6 * max (size-Expr l.first.now) (max (size-Expr l.second.now) (size-Expr l.third.now)) + 3

abbrev pub decreases-unfold_case : goal.decreases-unfold_case
decreases-unfold_case l = 6 * max (size-Expr l.part.now) (arms_size l.arms.now) + 5

abbrev pub decreases-unfold_in_call : goal.decreases-unfold_in_call
decreases-unfold_in_call l = 6 * size-Expr l.e.now

abbrev pub decreases-unfold_boxed : goal.decreases-unfold_boxed
decreases-unfold_boxed l = 6 * part_size l.part.now + 2

abbrev pub decreases-unfold_parts : goal.decreases-unfold_parts
decreases-unfold_parts l = 6 * most size-Expr l.parts.now + 3

abbrev pub decreases-unfold_first : goal.decreases-unfold_first
decreases-unfold_first l = 6 * most size-Expr l.parts.now + 2

abbrev pub decreases-unfold_arms : goal.decreases-unfold_arms
decreases-unfold_arms l = 6 * arms_size l.arms.now + 4

abbrev pub decreases-unfold_first_arm : goal.decreases-unfold_first_arm
decreases-unfold_first_arm l = 6 * arms_size l.arms.now + 3

abbrev pub decreases-unfold_arm : goal.decreases-unfold_arm
decreases-unfold_arm l = 6 * size-Expr l.arm.now.1 + 2

abbrev pub invariant-unfold_first-loop-i : goal.invariant-unfold_first-loop-i
invariant-unfold_first-loop-i l =
    (l.parts ≡ l.initial.parts) × (first_changed (expression_changed (alone l.funs) l.scope) (take l.i l.parts) ≡ None)

abbrev pub invariant-unfold_first_arm-loop-i : goal.invariant-unfold_first_arm-loop-i
invariant-unfold_first_arm-loop-i l =
    (l.arms ≡ l.initial.arms) × (first_changed (arm_changed (expression_changed (alone l.funs)) l.scope) (take l.i l.arms) ≡ None)
