use Rattle.std.proofs.Common.{map}
use Rattle.hume_console.proofs.StepFills.{Filling}
use Rattle.hume_console.proofs.stepping.fill_inputs.Given as goal

abbrev pub invariant-loop-node : goal.invariant-loop-node
invariant-loop-node g l = Filling l.want l.places
    (map (λ b. (goal.Port-dyn g (b.vtable, b.value)).view b.value) l.initial.ports)
    (map (λ b. (goal.Port-dyn g (b.vtable, b.value)).view b.value) l.ports)
    l.initial.engine l.engine l.node
