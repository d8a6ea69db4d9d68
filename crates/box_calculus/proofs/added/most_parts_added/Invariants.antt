use Rattle.std.proofs.Common.{◌≡◌, drop, map}
use Rattle.hume_base.specs.Sizes.{greatest}
use Rattle.box_calculus.specs.inner.Sizes.{most_parts}
use Rattle.box_calculus.proofs.added.most_parts_added.Given as goal

abbrev pub invariant-loop-i : goal.invariant-loop-i
invariant-loop-i l = l.most ≡ greatest (map most_parts (drop l.i l.funs))
