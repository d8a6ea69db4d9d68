use Rattle.std.proofs.Common.{length}
use Rattle.calculus_unfolding.proofs.calls.+pattern_numbers.Given as goal

abbrev pub decreases-pattern_numbers : goal.decreases-pattern_numbers
decreases-pattern_numbers l = length l.pats.now
