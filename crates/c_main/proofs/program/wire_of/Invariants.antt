use Rattle.std.proofs.Common.{◌≡◌, drop, find}
use Rattle.c_main.specs.Streams.{belongs_to, wire_of}
use Rattle.c_main.proofs.program.wire_of.Given as goal

abbrev pub invariant-loop-wire : goal.invariant-loop-wire
invariant-loop-wire l = find (belongs_to l.node l.comes_in) (drop l.wire-index l.wires) ≡ wire_of l.core l.node l.comes_in
