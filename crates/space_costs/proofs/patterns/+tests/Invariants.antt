use Rattle.std.proofs.Common.{◌≡◌, drop}
use Rattle.box_costs.specs.PatternTests.{tests_of_all}
use Rattle.space_costs.specs.inner.Standing.{counted}
use Rattle.space_costs.proofs.patterns.+tests.Given as goal

abbrev pub invariant-all_tests-loop-i : goal.invariant-all_tests-loop-i
invariant-all_tests-loop-i l = l.total ≡ counted (tests_of_all (drop l.i l.pats))
