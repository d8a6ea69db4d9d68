use Rattle.std.proofs.Common.{◌≡◌, drop, find}
use Rattle.c_nets.specs.Nets.{starts_at, wire_from}
use Rattle.c_nets.proofs.net.outlet.Given as goal

abbrev pub invariant-loop-wire : goal.invariant-loop-wire
invariant-loop-wire l = find (starts_at l.node l.port) (drop l.wire-index l.wires) ≡ wire_from l.core l.node l.port
