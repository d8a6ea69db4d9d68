use Rattle.std.proofs.Common.{◌≡◌, ◌++◌, drop}
use Rattle.c_types.specs.Declarations.{constants_from}
use Rattle.c_types.proofs.declarations.constants_of.Given as goal

abbrev pub invariant-loop-place : goal.invariant-loop-place
invariant-loop-place l = l.constants ++ constants_from l.names l.place (drop l.place l.cons) ≡ constants_from l.names 0 l.cons
