use Rattle.std.proofs.Common.{length}
use Rattle.calculus_unfolding.proofs.calls.+lets_around.Given as goal

abbrev pub decreases-lets_around : goal.decreases-lets_around
decreases-lets_around l = length l.args.now
