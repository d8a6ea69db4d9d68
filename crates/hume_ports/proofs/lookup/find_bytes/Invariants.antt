use Rattle.std.proofs.Common.{map}
use Rattle.hume_ports.proofs.Places.{NoneBefore}
use Rattle.hume_ports.proofs.lookup.find_bytes.Given as goal

abbrev pub invariant-loop-at : goal.invariant-loop-at
invariant-loop-at g l = NoneBefore l.name (map (λ b. (goal.Port-dyn g (b.vtable, b.value)).view b.value) l.ports) l.at
