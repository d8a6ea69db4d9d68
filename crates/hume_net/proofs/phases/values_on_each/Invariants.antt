use Rattle.std.proofs.Common.{◌≡◌, map, take}
use Rattle.hume_net.specs.Sides.{on_found}
use Rattle.hume_net.proofs.phases.values_on_each.Given as goal

abbrev pub invariant-loop-wire : goal.invariant-loop-wire
invariant-loop-wire l = l.values ≡ map (on_found l.state) (take l.wire-index l.wires)
