use Rattle.std.proofs.Common.{length}
use Rattle.union_front.proofs.uniting.+unite_behind.Given as goal

abbrev pub decreases-unite_behind : goal.decreases-unite_behind
decreases-unite_behind l = length l.programs.now
