use Rattle.std.proofs.Common.{◌≡◌, ◌++◌, drop}
use Rattle.c_valid.specs.inner.Known.{known}
use Rattle.c_valid.specs.Functions.{tests_from}
use Rattle.c_valid.proofs.bodies.tests_of.Given as goal

abbrev pub invariant-loop-place : goal.invariant-loop-place
invariant-loop-place l =
    l.tests ++ tests_from (known l.tested) l.object l.place (drop l.place l.tys) ≡ tests_from (known l.tested) l.object 0 l.tys
