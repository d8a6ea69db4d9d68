use Rattle.std.proofs.Common.{◌≡◌, vec_len}
use Rattle.c_expressions.specs.inner.Ways.{ways_before}
use Rattle.c_expressions.proofs.arms.ways_tried.Given as goal

abbrev pub decreases-loop-way : goal.decreases-loop-way
decreases-loop-way l = vec_len l.ways

abbrev pub invariant-loop-way : goal.invariant-loop-way
invariant-loop-way l = ways_before l.ways.items l.made ≡ ways_before l.initial.ways.items l.initial.made
