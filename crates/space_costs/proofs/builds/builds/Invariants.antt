use Rattle.space_costs.proofs.TypeBuilds.{AreBuildsBelow}
use Rattle.space_costs.proofs.builds.builds.Given as goal

abbrev pub invariant-loop-data_type : goal.invariant-loop-data_type
invariant-loop-data_type l = AreBuildsBelow l.types l.data_type-index l.builds
