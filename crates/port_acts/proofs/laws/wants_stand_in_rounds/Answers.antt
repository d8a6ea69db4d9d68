use Rattle.port_acts.proofs.Wanting.{stands_in_round}
use Rattle.port_acts.proofs.laws.wants_stand_in_rounds.Goals as goal

pub returns : goal.returns
returns c = stands_in_round
