use Rattle.std.proofs.Common.{length}
use Rattle.hume_run.proofs.top.+lacks_one.Given as goal

abbrev pub decreases-lacks_one : goal.decreases-lacks_one
decreases-lacks_one g l = length l.sources.now
