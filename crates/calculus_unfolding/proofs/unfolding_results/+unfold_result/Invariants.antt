use Rattle.std.proofs.Common.{◌≡◌, None, take}
use Rattle.std.specs.Prelude.{◌+◌, ◌*◌, max}
use Rattle.hume_model.specs.declared.core_tree.Res.{size-Res}
use Rattle.calculus_unfolding.specs.inner.Changes.{alone, arm_changed, first_changed, result_changed}
use Rattle.calculus_unfolding.proofs.Measures.{ways_size}
use Rattle.calculus_unfolding.proofs.unfolding_results.+unfold_result.Given as goal

abbrev pub decreases-unfold_result : goal.decreases-unfold_result
decreases-unfold_result l = 6 * size-Res l.given.now + 1

abbrev pub decreases-unfold_choice : goal.decreases-unfold_choice
decreases-unfold_choice l = 6 * max (size-Res l.when_true.now) (size-Res l.when_false.now) + 3

abbrev pub decreases-unfold_branches : goal.decreases-unfold_branches
decreases-unfold_branches l = 6 * max (size-Res l.when_true.now) (size-Res l.when_false.now) + 2

abbrev pub decreases-unfold_case : goal.decreases-unfold_case
decreases-unfold_case l = 6 * ways_size l.arms.now + 5

abbrev pub decreases-unfold_binding : goal.decreases-unfold_binding
decreases-unfold_binding l = 6 * size-Res l.body.now + 2

abbrev pub decreases-unfold_ways : goal.decreases-unfold_ways
decreases-unfold_ways l = 6 * ways_size l.arms.now + 4

abbrev pub decreases-unfold_first_way : goal.decreases-unfold_first_way
decreases-unfold_first_way l = 6 * ways_size l.arms.now + 3

abbrev pub decreases-unfold_way : goal.decreases-unfold_way
decreases-unfold_way l = 6 * size-Res l.arm.now.1 + 2

abbrev pub invariant-unfold_first_way-loop-i : goal.invariant-unfold_first_way-loop-i
invariant-unfold_first_way-loop-i l =
    (l.arms ≡ l.initial.arms) × (first_changed (arm_changed (result_changed (alone l.funs)) l.scope) (take l.i l.arms) ≡ None)
