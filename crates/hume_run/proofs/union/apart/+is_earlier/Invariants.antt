use Rattle.std.proofs.Common.{length}
use Rattle.hume_run.proofs.union.apart.+is_earlier.Given as goal

abbrev pub decreases-is_earlier : goal.decreases-is_earlier
decreases-is_earlier l = length l.programs.now
