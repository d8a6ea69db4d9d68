use Rattle.std.proofs.Common.{◌≡◌, drop, map, nat_le}
use Rattle.hume_base.specs.Sizes.{greatest}
use Rattle.box_calculus.specs.inner.Sizes.{most_depth}
use Rattle.box_calculus.proofs.added.functions_add_within.Given as goal

abbrev pub invariant-loop-function : goal.invariant-loop-function
invariant-loop-function l = nat_le (greatest (map most_depth (drop l.function-index l.funs))) l.depth ≡ nat_le (greatest (map most_depth l.funs)) l.depth
