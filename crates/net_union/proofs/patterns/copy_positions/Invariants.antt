use Rattle.std.proofs.Common.{◌≡◌, take}
use Rattle.std.specs.Prelude.{IfOk}
use Rattle.net_union.proofs.patterns.copy_positions.Given as goal

abbrev pub invariant-loop-position : goal.invariant-loop-position
invariant-loop-position l = IfOk l.copies (λ made. made ≡ take l.position-index l.positions)
