use Rattle.std.proofs.Common.{◌≡◌, ◌++◌, drop}
use Rattle.check_names.specs.Mentions.{patterns_mentions}
use Rattle.check_names.proofs.mention_types.+mention_patterns.Given as goal

abbrev pub invariant-mention_patterns-loop-pattern : goal.invariant-mention_patterns-loop-pattern
invariant-mention_patterns-loop-pattern l = l.out ++ patterns_mentions (drop l.pattern-index l.patterns) ≡ l.fn.out ++ patterns_mentions l.patterns
