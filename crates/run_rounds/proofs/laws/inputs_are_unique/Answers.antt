use Rattle.run_rounds.proofs.OneInputs.{one_inputs}
use Rattle.run_rounds.proofs.laws.inputs_are_unique.Goals as goal

pub returns : goal.returns
returns c core run texts first second p q = one_inputs core run.names texts first second p q
