use Rattle.std.proofs.Common.{◌≡◌, drop, length}
use Rattle.box_costs.specs.Bounds.{built_patterns}
use Rattle.space_costs.specs.inner.Standing.{counted}
use Rattle.space_costs.proofs.positions.built_count.Given as goal

abbrev pub invariant-loop-i : goal.invariant-loop-i
invariant-loop-i l = l.total ≡ counted (length (built_patterns (drop l.i l.pats)))
