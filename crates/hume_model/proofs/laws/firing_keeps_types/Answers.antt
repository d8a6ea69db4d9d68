use Rattle.hume_model.proofs.FiringTypes.{fire_typed}
use Rattle.hume_model.proofs.laws.firing_keeps_types.Goals as goal

pub returns : goal.returns
returns c = λ core sound b typed ins are order firing fires. fire_typed core sound b typed ins are order firing fires
