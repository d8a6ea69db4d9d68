use Rattle.hume_net.proofs.WellFormedNets.{typed_net}
use Rattle.hume_net.proofs.laws.well_formed_nets_are_typed.Goals as goal

pub returns : goal.returns
returns c = λ core formed agree. typed_net core formed agree
