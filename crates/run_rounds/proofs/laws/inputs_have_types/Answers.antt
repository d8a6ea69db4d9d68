use Rattle.run_rounds.proofs.TypedInputs.{inputs_typed}
use Rattle.run_rounds.proofs.laws.inputs_have_types.Goals as goal

pub returns : goal.returns
returns c = inputs_typed
