use Rattle.std.proofs.Common.{◌≡◌, [], map}
use Rattle.hume_text.specs.Chunks.{bytes_in, room_of}
use Rattle.hume_streams.specs.Logs.{log_view}
use Rattle.hume_streams.proofs.places_lemmas.LinesInTurn.{HasDrained}
use Rattle.hume_streams.proofs.places.draining.drain_at.Given as goal

abbrev pub invariant-loop-place : goal.invariant-loop-place
invariant-loop-place g l = HasDrained l.types l.ty (log_view l.fn.log).values l.at
    (map (λ b. (goal.Port-dyn g (b.vtable, b.value)).view b.value) l.initial.ports)
    (map (λ b. (goal.Port-dyn g (b.vtable, b.value)).view b.value) l.ports) l.place
    × (bytes_in l.chunk ≡ []) × (room_of l.chunk ≡ room_of l.initial.chunk)
