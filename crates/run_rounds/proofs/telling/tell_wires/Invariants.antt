use Rattle.std.proofs.Common.{map, [], slice_get}
use Rattle.hume_net.specs.Sides.{on_wire}
use Rattle.phase_workers.specs.Engines.{core_of, state_of}
use Rattle.trace_print.specs.TraceLines.{line_there}
use Rattle.run_rounds.proofs.Tellings.{Telling}
use Rattle.run_rounds.proofs.telling.tell_wires.Given as goal

abbrev pub invariant-loop-wire : goal.invariant-loop-wire
invariant-loop-wire g l = Telling
    (map (λ b. (goal.Port-dyn g (b.vtable, b.value)).view b.value) l.initial.ports)
    (map (λ b. (goal.Port-dyn g (b.vtable, b.value)).view b.value) l.ports)
    []
    (λ w. line_there (core_of l.engine) (on_wire (state_of l.engine) w) (slice_get (core_of l.engine).wires w))
    l.initial.chunk l.chunk l.wire
