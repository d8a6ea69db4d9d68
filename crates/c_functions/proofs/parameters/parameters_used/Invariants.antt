use Rattle.std.proofs.Common.{◌≡◌, ◌++◌, drop}
use Rattle.c_analysis.specs.Targets.{target}
use Rattle.c_functions.specs.Functions.{parameters_from}
use Rattle.c_functions.proofs.parameters.parameters_used.Given as goal

abbrev pub invariant-loop-place : goal.invariant-loop-place
invariant-loop-place l = l.all ++ parameters_from (target l.s) l.used l.place (drop l.place l.tys) ≡ parameters_from (target l.s) l.used 0 l.tys
