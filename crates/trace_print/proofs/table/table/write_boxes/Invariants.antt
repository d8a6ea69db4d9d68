use Rattle.std.proofs.Common.{◌≡◌, map}
use Rattle.hume_text.specs.Chunks.{room_of}
use Rattle.trace_print.proofs.table_lemmas.Lines.{FirstWritten}
use Rattle.trace_print.proofs.table.table.write_boxes.Given as goal

abbrev pub invariant-loop-node : goal.invariant-loop-node
invariant-loop-node g l = FirstWritten l.core l.at
    (map (λ b. (goal.Port-dyn g (b.vtable, b.value)).view b.value) l.initial.ports)
    (map (λ b. (goal.Port-dyn g (b.vtable, b.value)).view b.value) l.ports) l.node
    × (room_of l.chunk ≡ room_of l.initial.chunk)
