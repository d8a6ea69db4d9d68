use Rattle.std.proofs.Common.{◌≡◌}
use Rattle.hume_net.specs.Sides.{numbered, wire_from}
use Rattle.hume_net.proofs.ends.wires_out_of.Given as goal

abbrev pub invariant-loop-output : goal.invariant-loop-output
invariant-loop-output l = l.wires ≡ numbered l.output (wire_from l.core l.number)
