use Rattle.std.proofs.Common.{◌≡◌, Some, drop}
use Rattle.hume_model.specs.Patterns.{both_match, matches_all}
use Rattle.hume_model.proofs.patterns.+matched.Given as goal

abbrev pub invariant-all_matched-loop-i : goal.invariant-all_matched-loop-i
invariant-all_matched-loop-i l =
    both_match (Some l.bound) (matches_all (drop l.i l.patterns) (drop l.i l.values)) ≡ matches_all l.patterns l.values
