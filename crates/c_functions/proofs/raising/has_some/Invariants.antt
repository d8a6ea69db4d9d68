use Rattle.std.proofs.Common.{◌≡◌}
use Rattle.hume_exceptions.specs.Sets.{has}
use Rattle.c_functions.specs.Raising.{some_below}
use Rattle.c_functions.proofs.raising.has_some.Given as goal

abbrev pub invariant-loop-exn : goal.invariant-loop-exn
invariant-loop-exn l = l.some ≡ some_below l.exn (has l.set)
