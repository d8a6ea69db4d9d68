use Rattle.port_acts.proofs.Single.{line_stops, line_ends}
use Rattle.port_acts.proofs.acts.write_and_finish.Goals as goal

pub returns-in-Err-clause-ends : goal.returns-in-Err-clause-ends
returns-in-Err-clause-ends g c = line_stops _ _ _ _ c.in-Err.ensures.ends

pub returns-clause-ends : goal.returns-clause-ends
returns-clause-ends g c = line_ends _ _ _ _ _ _ c.in-Ok.ensures.same_names c.in-Ok.ensures.ends c.finish_act.ensures.ends
