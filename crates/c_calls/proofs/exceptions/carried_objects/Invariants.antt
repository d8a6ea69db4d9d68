use Rattle.std.proofs.Common.{◌≡◌, ◌++◌, drop}
use Rattle.std.specs.List.{flat_map}
use Rattle.c_types.specs.Gathered.{gathered}
use Rattle.c_calls.specs.Exceptions.{carried_of}
use Rattle.c_calls.proofs.exceptions.carried_objects.Given as goal

abbrev pub invariant-loop-exn : goal.invariant-loop-exn
invariant-loop-exn l =
    l.items ++ flat_map (carried_of (gathered l.types)) (drop l.exn-index l.exns) ≡ flat_map (carried_of (gathered l.types)) l.exns
