use Rattle.std.proofs.Common.{map}
use Rattle.log_rounds.proofs.FillingInputs.{Filling}
use Rattle.log_rounds.proofs.filling.fill_inputs.Given as goal

abbrev pub invariant-loop-node : goal.invariant-loop-node
invariant-loop-node g l = Filling
    (map (λ b. (goal.Port-dyn g (b.vtable, b.value)).view b.value) l.initial.ports)
    (map (λ b. (goal.Port-dyn g (b.vtable, b.value)).view b.value) l.ports)
    l.initial.run l.run l.node
