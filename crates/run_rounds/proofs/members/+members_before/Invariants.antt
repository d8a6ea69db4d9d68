use Rattle.std.proofs.Common.{length}
use Rattle.run_rounds.proofs.members.+members_before.Given as goal

abbrev pub decreases-members_before : goal.decreases-members_before
decreases-members_before l = length l.members.now
