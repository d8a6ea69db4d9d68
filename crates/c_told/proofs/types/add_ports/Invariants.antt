use Rattle.std.proofs.Common.{◌≡◌, drop}
use Rattle.c_types.specs.Gathered.{gathered}
use Rattle.c_told.specs.Told.{port_types, with_all}
use Rattle.c_told.proofs.types.add_ports.Given as goal

abbrev pub invariant-loop-port : goal.invariant-loop-port
invariant-loop-port l =
    with_all (gathered l.types) (port_types (drop l.port-index l.ports)) ≡ with_all (gathered l.initial.types) (port_types l.ports)
