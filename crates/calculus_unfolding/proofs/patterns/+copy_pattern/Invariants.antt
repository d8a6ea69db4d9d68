use Rattle.std.proofs.Common.{◌≡◌, take}
use Rattle.std.specs.Prelude.{IfOk}
use Rattle.calculus_unfolding.proofs.patterns.+copy_pattern.Given as goal

abbrev pub invariant-copy_patterns-loop-pattern : goal.invariant-copy_patterns-loop-pattern
invariant-copy_patterns-loop-pattern l = IfOk l.copies (λ made. made ≡ take l.pattern-index l.patterns)
