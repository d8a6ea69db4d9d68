use Rattle.std.proofs.Common.{◌≡◌, drop}
use Rattle.std.specs.List.{flat_map}
use Rattle.c_types.specs.Gathered.{gathered}
use Rattle.c_told.specs.Told.{carried, with_all}
use Rattle.c_told.proofs.types.add_exceptions.Given as goal

abbrev pub invariant-loop-exn : goal.invariant-loop-exn
invariant-loop-exn l =
    with_all (gathered l.types) (flat_map (λ exn. carried exn.carries) (drop l.exn-index l.exns))
    ≡ with_all (gathered l.initial.types) (flat_map (λ exn. carried exn.carries) l.exns)
