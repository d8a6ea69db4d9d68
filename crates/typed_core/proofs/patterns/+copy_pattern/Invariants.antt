use Rattle.std.proofs.Common.{◌≡◌, take}
use Rattle.typed_core.proofs.patterns.+copy_pattern.Given as goal

abbrev pub invariant-copy_patterns-loop-pattern : goal.invariant-copy_patterns-loop-pattern
invariant-copy_patterns-loop-pattern l = l.copies ≡ take l.pattern-index l.patterns
