use Rattle.std.proofs.Common.{◌≡◌, drop}
use Rattle.std.specs.List.{flat_map}
use Rattle.c_types.specs.Gathered.{gathered}
use Rattle.c_told.specs.Told.{equations_tell, with_all}
use Rattle.c_told.proofs.types.add_functions.Given as goal

abbrev pub invariant-loop-equations : goal.invariant-loop-equations
invariant-loop-equations l =
    with_all (gathered l.types) (flat_map equations_tell (drop l.equations-index l.functions))
    ≡ with_all (gathered l.initial.types) (flat_map equations_tell l.functions)
