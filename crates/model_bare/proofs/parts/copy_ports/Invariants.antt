use Rattle.std.proofs.Common.{◌≡◌, take}
use Rattle.model_bare.proofs.parts.copy_ports.Given as goal

abbrev pub invariant-loop-port : goal.invariant-loop-port
invariant-loop-port l = l.copies ≡ take l.port-index l.ports
