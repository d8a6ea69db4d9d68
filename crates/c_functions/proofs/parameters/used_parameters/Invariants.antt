use Rattle.std.proofs.Common.{◌≡◌, ◌++◌, drop}
use Rattle.c_functions.specs.Functions.{used_from}
use Rattle.c_functions.proofs.parameters.used_parameters.Given as goal

abbrev pub invariant-loop-place : goal.invariant-loop-place
invariant-loop-place l = l.used ++ used_from l.statements l.place (drop l.place l.function.params) ≡ used_from l.statements 0 l.function.params
