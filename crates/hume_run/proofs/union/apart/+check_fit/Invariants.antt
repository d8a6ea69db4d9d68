use Rattle.std.proofs.Common.{length}
use Rattle.hume_run.proofs.union.apart.+check_fit.Given as goal

abbrev pub decreases-check_fit : goal.decreases-check_fit
decreases-check_fit g l = length l.programs.now
