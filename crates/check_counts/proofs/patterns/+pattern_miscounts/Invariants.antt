use Rattle.std.proofs.Common.{◌≡◌, map, drop}
use Rattle.check_names.specs.Twice.{any_true}
use Rattle.check_counts.specs.Miscounts.{pattern_miscounts}
use Rattle.check_counts.proofs.patterns.+pattern_miscounts.Given as goal

abbrev pub invariant-a_pattern_miscounts-loop-pat : goal.invariant-a_pattern_miscounts-loop-pat
invariant-a_pattern_miscounts-loop-pat l =
    let test = pattern_miscounts l.counts in
    any_true (map test (drop l.pat-index l.pats)) ≡ any_true (map test l.pats)
