use Rattle.std.proofs.Common.{◌+◌, map, []}
use Rattle.run_rounds.specs.Telling.{top_there}
use Rattle.run_rounds.proofs.Tellings.{Telling}
use Rattle.run_rounds.proofs.telling.tell_peaks_from.Given as goal

abbrev pub invariant-loop-place : goal.invariant-loop-place
invariant-loop-place g l = Telling
    (map (λ b. (goal.Port-dyn g (b.vtable, b.value)).view b.value) l.initial.ports)
    (map (λ b. (goal.Port-dyn g (b.vtable, b.value)).view b.value) l.ports)
    []
    (λ n. top_there l.engine (l.first + n))
    l.initial.chunk l.chunk l.place
