use Rattle.run_rounds.proofs.Tellings.{first_failed, first_made, then_told}
use Rattle.run_rounds.proofs.telling.tell_superstep.Goals as goal

pub returns-in-Err-clause-ends : goal.returns-in-Err-clause-ends
returns-in-Err-clause-ends g c = first_failed _ _ _ _ _ c.in-Err.failed c.in-Err.is c.tell_step.ensures.ends

pub returns-clause-ends : goal.returns-clause-ends
returns-clause-ends g c = then_told _ _ _ _ _ _ (first_made _ _ _ _ c.in-Ok.is c.tell_step.ensures.ends) c.tell_wires.ensures.ends
