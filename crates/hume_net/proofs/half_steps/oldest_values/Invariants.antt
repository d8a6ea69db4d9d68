use Rattle.std.proofs.Common.{◌≡◌, map, take}
use Rattle.hume_net.specs.HalfSteps.{oldest}
use Rattle.hume_net.proofs.half_steps.oldest_values.Given as goal

abbrev pub invariant-loop-wire : goal.invariant-loop-wire
invariant-loop-wire l = l.seen ≡ map oldest (take l.wire-index l.wires)
