use Rattle.std.proofs.Common.{ℕ, ◌<◌}
use Rattle.check_names.specs.Twice.{BindsTwice}
use Rattle.check_names.proofs.twice.first_bound_twice_in.Given as goal

abbrev pub invariant-loop-i : goal.invariant-loop-i
invariant-loop-i l = (j : ℕ) → j < l.i → BindsTwice l.decls j → ⊥
