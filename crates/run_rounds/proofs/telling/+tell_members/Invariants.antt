use Rattle.std.proofs.Common.{length}
use Rattle.run_rounds.proofs.telling.+tell_members.Given as goal

abbrev pub decreases-tell_members : goal.decreases-tell_members
decreases-tell_members g l = length l.members.now
