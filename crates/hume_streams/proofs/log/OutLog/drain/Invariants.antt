use Rattle.std.proofs.Common.{◌≡◌, []}
use Rattle.hume_text.specs.Chunks.{bytes_in, room_of}
use Rattle.hume_streams.specs.Logs.{log_view}
use Rattle.hume_streams.proofs.Draining.{HasDrained}
use Rattle.hume_streams.proofs.log.OutLog.drain.Given as goal

abbrev pub invariant-loop-place : goal.invariant-loop-place
invariant-loop-place g l = record {
  drained : HasDrained l.types l.ty (log_view l.self).values l.place
      ((goal.Port-dyn g (l.initial.port.vtable, l.initial.port.value)).view l.initial.port.value)
      ((goal.Port-dyn g (l.port.vtable, l.port.value)).view l.port.value);
  clear : bytes_in l.chunk ≡ [];
  room : room_of l.chunk ≡ room_of l.initial.chunk;
}
