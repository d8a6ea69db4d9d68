use Rattle.run_rounds.proofs.Standings.{has_inputs}
use Rattle.run_rounds.proofs.laws.each_run_has_inputs.Goals as goal

pub returns : goal.returns
returns c core run texts = has_inputs core run texts
