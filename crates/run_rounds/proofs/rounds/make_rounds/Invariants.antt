use Rattle.std.proofs.Common.{map}
use Rattle.run_rounds.proofs.RoundMaking.{Rounding}
use Rattle.run_rounds.proofs.rounds.make_rounds.Given as goal

abbrev pub invariant-loop-done : goal.invariant-loop-done
invariant-loop-done g l = Rounding l.traced l.steps
    (map (λ b. (goal.Port-dyn g (b.vtable, b.value)).view b.value) l.initial.ports)
    (map (λ b. (goal.Port-dyn g (b.vtable, b.value)).view b.value) l.ports)
    l.initial.engine l.engine l.initial.chunk l.chunk l.done
