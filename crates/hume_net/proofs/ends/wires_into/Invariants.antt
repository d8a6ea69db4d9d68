use Rattle.std.proofs.Common.{◌≡◌}
use Rattle.hume_net.specs.Sides.{numbered, wire_to}
use Rattle.hume_net.proofs.ends.wires_into.Given as goal

abbrev pub invariant-loop-input : goal.invariant-loop-input
invariant-loop-input l = l.wires ≡ numbered l.input (wire_to l.core l.number)
