use Rattle.calculus_laws.proofs.Runs.{core_formed}
use Rattle.calculus_laws.proofs.laws.rewrites_keep_cores_well_formed.Goals as goal

pub returns : goal.returns
returns c = core_formed
