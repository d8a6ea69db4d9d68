use Rattle.std.proofs.Common.{◌≡◌, true}
use Rattle.look_told.proofs.lines.BadLines.add.Given as goal

abbrev pub invariant-loop-number : goal.invariant-loop-number
invariant-loop-number g l = l.fn.self.is_unknown ≡ true → l.self.is_unknown ≡ true
