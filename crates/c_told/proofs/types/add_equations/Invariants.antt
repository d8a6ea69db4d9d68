use Rattle.std.proofs.Common.{◌≡◌, drop}
use Rattle.c_types.specs.Gathered.{gathered}
use Rattle.c_told.specs.Told.{equations_tell, with_all}
use Rattle.c_told.proofs.types.add_equations.Given as goal

abbrev pub invariant-loop-equation : goal.invariant-loop-equation
invariant-loop-equation l =
    with_all (gathered l.types) (equations_tell (drop l.equation-index l.equations)) ≡ with_all (gathered l.initial.types) (equations_tell l.equations)
