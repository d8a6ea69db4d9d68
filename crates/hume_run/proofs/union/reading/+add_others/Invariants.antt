use Rattle.std.proofs.Common.{length}
use Rattle.hume_run.proofs.union.reading.+add_others.Given as goal

abbrev pub decreases-add_others : goal.decreases-add_others
decreases-add_others g l = length l.sources.now
