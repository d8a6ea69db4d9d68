use Rattle.std.proofs.Common.{◌≡◌, drop, map}
use Rattle.hume_base.specs.Sizes.{greatest}
use Rattle.box_calculus.specs.inner.Sizes.{added_parts}
use Rattle.box_calculus.proofs.added.most_of_equations.Given as goal

abbrev pub invariant-loop-i : goal.invariant-loop-i
invariant-loop-i l = l.most ≡ greatest (map added_parts (drop l.i l.equations))
