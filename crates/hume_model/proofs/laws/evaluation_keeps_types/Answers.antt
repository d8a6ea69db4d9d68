use Rattle.hume_model.proofs.CallTypes.{eval_typed}
use Rattle.hume_model.proofs.laws.evaluation_keeps_types.Goals as goal

pub returns : goal.returns
returns c = λ core sound vars e ty has env is. eval_typed core sound has env is
