use Rattle.hume_model.proofs.WellFormedCores.{readable_sizes}
use Rattle.hume_model.proofs.laws.well_formed_types_are_readable.Goals as goal

pub returns : goal.returns
returns c = λ core formed. readable_sizes core formed
