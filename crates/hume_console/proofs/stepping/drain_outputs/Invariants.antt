use Rattle.std.proofs.Common.{map}
use Rattle.hume_console.proofs.Drains.{Draining}
use Rattle.hume_console.proofs.stepping.drain_outputs.Given as goal

abbrev pub invariant-loop-node : goal.invariant-loop-node
invariant-loop-node g l = Draining
    (map (λ b. (goal.Port-dyn g (b.vtable, b.value)).view b.value) l.initial.ports)
    (map (λ b. (goal.Port-dyn g (b.vtable, b.value)).view b.value) l.ports)
    l.initial.engine l.engine l.initial.chunk l.chunk l.places l.node
