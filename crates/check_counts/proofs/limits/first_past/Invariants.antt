use Rattle.std.proofs.Common.{◌≡◌, ℕ, ◌<◌, take}
use Rattle.check_counts.specs.Limits.{PassesLimits, tally_of}
use Rattle.check_counts.proofs.limits.first_past.Given as goal

abbrev pub invariant-loop-i : goal.invariant-loop-i
invariant-loop-i l = record {
  counted : l.before ≡ tally_of (take l.i l.decls);
  none : (j : ℕ) → j < l.i → PassesLimits l.decls j → ⊥;
}
