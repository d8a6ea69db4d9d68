use Rattle.std.proofs.Common.{◌≡◌, take}
use Rattle.model_bare.proofs.parts.copy_positions.Given as goal

abbrev pub invariant-loop-position : goal.invariant-loop-position
invariant-loop-position l = l.copies ≡ take l.position-index l.positions
