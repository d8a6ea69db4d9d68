use Rattle.std.proofs.Common.{map}
use Rattle.log_rounds.proofs.Agreeing.{Agreeing}
use Rattle.log_rounds.proofs.verifying.verify_supersteps.Given as goal

abbrev pub invariant-loop-done : goal.invariant-loop-done
invariant-loop-done g l = Agreeing l.log l.steps
    (map (λ b. (goal.Port-dyn g (b.vtable, b.value)).view b.value) l.initial.ports)
    (map (λ b. (goal.Port-dyn g (b.vtable, b.value)).view b.value) l.ports)
    l.initial.run l.run l._done
