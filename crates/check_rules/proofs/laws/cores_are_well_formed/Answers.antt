use Rattle.check_rules.proofs.WellFormed.{well_formed}
use Rattle.check_rules.proofs.laws.cores_are_well_formed.Goals as goal

pub returns : goal.returns
returns c = λ text program core fine fit tokens p. well_formed text program core fine fit tokens p
