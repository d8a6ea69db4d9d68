use Rattle.std.proofs.Common.{◌≡◌, take}
use Rattle.typed_core.proofs.patterns.copy_positions.Given as goal

abbrev pub invariant-loop-position : goal.invariant-loop-position
invariant-loop-position l = l.copies ≡ take l.position-index l.positions
