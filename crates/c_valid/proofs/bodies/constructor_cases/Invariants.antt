use Rattle.std.proofs.Common.{◌≡◌, ◌++◌, drop}
use Rattle.c_valid.specs.inner.Known.{known}
use Rattle.c_valid.specs.Functions.{cases_from}
use Rattle.c_valid.proofs.bodies.constructor_cases.Given as goal

abbrev pub invariant-loop-place : goal.invariant-loop-place
invariant-loop-place l =
    l.cases ++ cases_from (known l.tested) l.sum l.place (drop l.place l.con-items) ≡ cases_from (known l.tested) l.sum 0 l.sum.cons
