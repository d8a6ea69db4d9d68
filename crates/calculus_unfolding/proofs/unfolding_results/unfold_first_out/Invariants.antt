use Rattle.std.proofs.Common.{◌≡◌, None, take}
use Rattle.calculus_unfolding.specs.inner.Changes.{alone, first_changed, part_changed}
use Rattle.calculus_unfolding.proofs.unfolding_results.unfold_first_out.Given as goal

abbrev pub invariant-loop-i : goal.invariant-loop-i
invariant-loop-i l = (l.outs ≡ l.initial.outs) × (first_changed (part_changed (alone l.funs) l.scope) (take l.i l.outs) ≡ None)
