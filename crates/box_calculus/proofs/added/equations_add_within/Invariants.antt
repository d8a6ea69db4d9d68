use Rattle.std.proofs.Common.{◌≡◌, drop, map, nat_le}
use Rattle.hume_base.specs.Sizes.{greatest}
use Rattle.box_calculus.specs.inner.Sizes.{added_depth}
use Rattle.box_calculus.proofs.added.equations_add_within.Given as goal

abbrev pub invariant-loop-equation : goal.invariant-loop-equation
invariant-loop-equation l =
    nat_le (greatest (map added_depth (drop l.equation-index l.equations))) l.depth ≡ nat_le (greatest (map added_depth l.equations)) l.depth
