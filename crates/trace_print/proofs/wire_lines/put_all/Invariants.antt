use Rattle.std.proofs.Common.{◌≡◌, ◌≤◌}
use Rattle.hume_text.specs.Chunks.{bytes_in, room_of}
use Rattle.trace_print.proofs.ValuesPut.{FirstPut}
use Rattle.trace_print.proofs.wire_lines.put_all.Given as goal

abbrev pub invariant-loop-i : goal.invariant-loop-i
invariant-loop-i l = (1 ≤ l.i) × FirstPut l.types l.ty l.cell.values (bytes_in l.fn.chunk) (bytes_in l.chunk) l.i × (room_of l.chunk ≡ room_of l.fn.chunk)
