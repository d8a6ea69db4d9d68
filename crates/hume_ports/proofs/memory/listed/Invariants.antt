use Rattle.std.proofs.Common.{◌≡◌, drop}
use Rattle.hume_ports.specs.Memory.{listed}
use Rattle.hume_ports.proofs.memory.listed.Given as goal

abbrev pub invariant-loop-fail : goal.invariant-loop-fail
invariant-loop-fail l = listed l.call l.failing ≡ listed l.call (drop l.fail-index l.failing)
