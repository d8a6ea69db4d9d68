use Rattle.std.proofs.Common.{length, ◌-◌}
use Rattle.hume_run.proofs.union.apart.+shared_from.Given as goal

abbrev pub decreases-shared_from : goal.decreases-shared_from
decreases-shared_from l = length l.programs.now - l.place
