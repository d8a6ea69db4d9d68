use Rattle.std.proofs.Common.{◌≡◌, drop}
use Rattle.std.specs.List.{flat_map}
use Rattle.c_types.specs.Gathered.{gathered}
use Rattle.c_told.specs.Told.{output_tells, with_all}
use Rattle.c_told.proofs.told.add_outputs.Given as goal

abbrev pub invariant-loop-out : goal.invariant-loop-out
invariant-loop-out l =
    with_all (gathered l.types) (flat_map output_tells (drop l.out-index l.outs)) ≡ with_all (gathered l.initial.types) (flat_map output_tells l.outs)
