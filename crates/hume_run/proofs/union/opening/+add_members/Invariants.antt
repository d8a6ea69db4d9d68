use Rattle.std.proofs.Common.{length}
use Rattle.hume_run.proofs.union.opening.+add_members.Given as goal

abbrev pub decreases-add_members : goal.decreases-add_members
decreases-add_members l = length l.sources.now
