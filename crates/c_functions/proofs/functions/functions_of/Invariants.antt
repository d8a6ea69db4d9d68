use Rattle.std.proofs.Common.{◌≡◌, drop}
use Rattle.c_types.specs.Gathered.{gathered}
use Rattle.c_functions.specs.Functions.{functions, functions_from}
use Rattle.c_functions.proofs.functions.functions_of.Given as goal

abbrev pub invariant-loop-place : goal.invariant-loop-place
invariant-loop-place l = functions_from l.core (gathered l.types) l.raises l.trees l.place (drop l.place l.core.funs) l.all
    ≡ functions l.core (gathered l.types) l.raises l.trees
