use Rattle.std.proofs.Common.{◌≡◌, drop}
use Rattle.std.specs.List.{list_any}
use Rattle.check_counts.specs.Miscounts.{pattern_miscounts}
use Rattle.check_counts.proofs.patterns.some_pattern_miscounts.Given as goal

abbrev pub invariant-loop-pat : goal.invariant-loop-pat
invariant-loop-pat l = list_any (pattern_miscounts l.counts) (drop l.pat-index l.pats) ≡ list_any (pattern_miscounts l.counts) l.pats
