use Rattle.std.proofs.Common.{map}
use Rattle.hume_text.specs.Chunks.{room_of}
use Rattle.run_log.specs.inner.Blocks.{block_in}
use Rattle.run_log.proofs.LinesToPorts.{WrittenSoFar}
use Rattle.run_log.proofs.writing.write_block.Given as goal

abbrev pub invariant-loop-place : goal.invariant-loop-place
invariant-loop-place g l = WrittenSoFar l.at (block_in l.net l.superstep) l.place
    (map (λ b. (goal.Port-dyn g (b.vtable, b.value)).view b.value) l.initial.ports)
    (map (λ b. (goal.Port-dyn g (b.vtable, b.value)).view b.value) l.ports)
    (room_of l.initial.chunk) (room_of l.chunk)
