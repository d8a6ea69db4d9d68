use Rattle.std.proofs.Common.{length}
use Rattle.hume_run.proofs.union.apart.+is_source.Given as goal

abbrev pub decreases-is_source : goal.decreases-is_source
decreases-is_source l = length l.sources.now
