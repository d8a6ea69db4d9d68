use Rattle.std.proofs.Common.{◌≡◌, map, take}
use Rattle.hume_net.specs.Sides.{left_on}
use Rattle.hume_net.proofs.phases.produced_wires.Given as goal

abbrev pub invariant-loop-wire : goal.invariant-loop-wire
invariant-loop-wire l = l.wires ≡ map (λ wire. left_on l.halves wire.from wire.from_port) (take l.wire-index l.core.wires)
