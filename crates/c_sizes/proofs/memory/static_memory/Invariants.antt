use Rattle.std.proofs.Common.{◌≡◌, ◌++◌, drop}
use Rattle.c_sizes.specs.Memory.{memory_rows, rows_of}
use Rattle.c_sizes.proofs.memory.static_memory.Given as goal

abbrev pub invariant-loop-item : goal.invariant-loop-item
invariant-loop-item l = l.rows ++ rows_of l.types (drop l.item-index l.program.items) ≡ memory_rows l.program.items
