use Rattle.std.proofs.Common.{◌≡◌, ◌++◌, map, drop}
use Rattle.check_wires.specs.types.NodeTypes.{place_type}
use Rattle.check_wires.proofs.types.ports.port_types.Given as goal

abbrev pub invariant-loop-place : goal.invariant-loop-place
invariant-loop-place l = l.types ++ map (place_type l.table.types) (drop l.place-index l.places) ≡ map (place_type l.table.types) l.places
