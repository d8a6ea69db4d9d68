use Rattle.std.proofs.Common.{◌≡◌, drop}
use Rattle.std.specs.List.{flat_map}
use Rattle.c_types.specs.Gathered.{gathered}
use Rattle.c_told.specs.Told.{signature_tells, with_all}
use Rattle.c_told.proofs.types.add_signatures.Given as goal

abbrev pub invariant-loop-function : goal.invariant-loop-function
invariant-loop-function l =
    with_all (gathered l.types) (flat_map signature_tells (drop l.function-index l.functions))
    ≡ with_all (gathered l.initial.types) (flat_map signature_tells l.functions)
