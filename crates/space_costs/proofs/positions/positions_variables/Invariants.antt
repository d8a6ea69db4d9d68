use Rattle.std.proofs.Common.{◌≡◌, drop}
use Rattle.box_costs.specs.PatternTests.{variables_of_all}
use Rattle.box_costs.specs.Bounds.{built_patterns}
use Rattle.space_costs.specs.inner.Standing.{counted}
use Rattle.space_costs.proofs.positions.positions_variables.Given as goal

abbrev pub invariant-loop-i : goal.invariant-loop-i
invariant-loop-i l = l.total ≡ counted (variables_of_all (built_patterns (drop l.i l.pats)))
