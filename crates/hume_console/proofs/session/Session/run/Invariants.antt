use Rattle.std.proofs.Common.{map}
use Rattle.std.specs.Prelude.{vec_len, vec_capacity}
use Rattle.hume_console.proofs.SessionTold.{Answering}
use Rattle.hume_console.proofs.session.Session.run.Given as goal

abbrev pub invariant-loop-done : goal.invariant-loop-done
invariant-loop-done g l = Answering l.initial.self l.self
    (record {
      ports = map (λ b. (goal.Port-dyn g (b.vtable, b.value)).view b.value) l.initial.ports.items;
      gone = map (λ b. (goal.Port-dyn g (b.vtable, b.value)).view b.value) l.initial.gone.items;
    })
    (record {
      ports = map (λ b. (goal.Port-dyn g (b.vtable, b.value)).view b.value) l.ports.items;
      gone = map (λ b. (goal.Port-dyn g (b.vtable, b.value)).view b.value) l.gone.items;
    })
    (vec_len l.gone) (vec_len l.ports) (vec_capacity l.gone) l.done
