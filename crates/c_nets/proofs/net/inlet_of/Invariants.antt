use Rattle.std.proofs.Common.{◌≡◌, drop, find}
use Rattle.c_nets.specs.Nets.{leads_to, wire_to}
use Rattle.c_nets.proofs.net.inlet_of.Given as goal

abbrev pub invariant-loop-wire : goal.invariant-loop-wire
invariant-loop-wire l = find (leads_to l.node l.port) (drop l.wire-index l.wires) ≡ wire_to l.core l.node l.port
