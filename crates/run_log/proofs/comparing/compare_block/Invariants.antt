use Rattle.std.proofs.Common.{map}
use Rattle.hume_text.specs.Chunks.{room_of}
use Rattle.phase_workers.specs.Engines.{core_of, state_of}
use Rattle.run_log.specs.Nets.{engine_in, half_in}
use Rattle.run_log.proofs.Verdicts.{ComparedSoFar}
use Rattle.run_log.proofs.comparing.compare_block.Given as goal

abbrev pub invariant-loop-place : goal.invariant-loop-place
invariant-loop-place g l = ComparedSoFar (core_of (engine_in l.net))
    (record { half = half_in l.net; superstep = l.superstep; state = state_of (engine_in l.net) }) l.place l.at
    (map (λ b. (goal.Port-dyn g (b.vtable, b.value)).view b.value) l.initial.ports)
    (map (λ b. (goal.Port-dyn g (b.vtable, b.value)).view b.value) l.ports) l.fault
    (room_of l.initial.chunk) (room_of l.chunk)
