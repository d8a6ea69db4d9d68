use Rattle.std.proofs.Common.{◌≡◌, drop, map}
use Rattle.c_types.specs.Gathered.{gathered}
use Rattle.c_told.specs.Told.{with_all}
use Rattle.c_told.proofs.types.add_wires.Given as goal

abbrev pub invariant-loop-wire : goal.invariant-loop-wire
invariant-loop-wire l =
    with_all (gathered l.types) (map (λ wire. wire.ty) (drop l.wire-index l.wires)) ≡ with_all (gathered l.initial.types) (map (λ wire. wire.ty) l.wires)
