use Rattle.std.proofs.Common.{◌≡◌, drop}
use Rattle.hume_ports.specs.Ports.{is_among}
use Rattle.hume_calls.proofs.Fitting.{ports_named}
use Rattle.hume_calls.proofs.streams.is_named.Given as goal

abbrev pub invariant-loop-node : goal.invariant-loop-node
invariant-loop-node l = is_among l.port (ports_named (drop l.node-index l.nodes)) ≡ is_among l.port (ports_named l.nodes)
