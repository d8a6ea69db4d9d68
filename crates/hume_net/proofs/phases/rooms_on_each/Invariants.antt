use Rattle.std.proofs.Common.{◌≡◌, map, take}
use Rattle.hume_net.specs.Sides.{room_on}
use Rattle.hume_net.proofs.phases.rooms_on_each.Given as goal

abbrev pub invariant-loop-wire : goal.invariant-loop-wire
invariant-loop-wire l = l.found ≡ map (room_on l.core l.state) (take l.wire-index l.wires)
