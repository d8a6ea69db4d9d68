use Rattle.std.proofs.Common.{ℕ, ◌<◌}
use Rattle.check_names.specs.Unknown.{HasUnknownName}
use Rattle.check_names.proofs.unknown.first_lacking.Given as goal

abbrev pub invariant-loop-i : goal.invariant-loop-i
invariant-loop-i l = (j : ℕ) → j < l.i → HasUnknownName l.decls j → ⊥
