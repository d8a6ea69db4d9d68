use Rattle.std.proofs.Common.{◌≡◌, drop}
use Rattle.std.specs.Prelude.{fold}
use Rattle.c_sizes.specs.Memory.{together, with_row}
use Rattle.c_sizes.proofs.memory.together.Given as goal

abbrev pub invariant-loop-row : goal.invariant-loop-row
invariant-loop-row l = fold with_row l.sum (drop l.row-index l.rows) ≡ together l.rows
