use Rattle.std.proofs.Common.{map}
use Rattle.hume_console.proofs.Finishing.{Finishing}
use Rattle.hume_console.proofs.closing.close_streams.Given as goal

abbrev pub invariant-loop-node : goal.invariant-loop-node
invariant-loop-node g l = Finishing l.core
    (map (λ b. (goal.Port-dyn g (b.vtable, b.value)).view b.value) l.initial.ports)
    (map (λ b. (goal.Port-dyn g (b.vtable, b.value)).view b.value) l.ports)
    l.places l.out l.node
