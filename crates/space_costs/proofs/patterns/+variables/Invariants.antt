use Rattle.std.proofs.Common.{◌≡◌, drop}
use Rattle.box_costs.specs.PatternTests.{variables_of_all}
use Rattle.space_costs.specs.inner.Standing.{counted}
use Rattle.space_costs.proofs.patterns.+variables.Given as goal

abbrev pub invariant-all_variables-loop-i : goal.invariant-all_variables-loop-i
invariant-all_variables-loop-i l = l.total ≡ counted (variables_of_all (drop l.i l.pats))
