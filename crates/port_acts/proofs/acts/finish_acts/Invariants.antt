use Rattle.std.proofs.Common.{map}
use Rattle.port_acts.proofs.Finishing.{HasFinished}
use Rattle.port_acts.proofs.acts.finish_acts.Given as goal

abbrev pub invariant-loop-at : goal.invariant-loop-at
invariant-loop-at g l = HasFinished
    (map (λ b. (goal.Port-dyn g (b.vtable, b.value)).view b.value) l.initial.ports)
    (map (λ b. (goal.Port-dyn g (b.vtable, b.value)).view b.value) l.ports)
    l.places l.at-index
