use Rattle.std.proofs.Common.{◌≡◌, None, take}
use Rattle.calculus_unfolding.specs.inner.Changes.{alone, arm_changed, first_changed, result_changed}
use Rattle.calculus_unfolding.proofs.further.unfold_next_way.Given as goal

abbrev pub invariant-loop-i : goal.invariant-loop-i
invariant-loop-i l =
    (l.arms ≡ l.initial.arms) × (first_changed (arm_changed (result_changed (alone l.funs)) l.scope) (take l.i l.arms) ≡ None)
