use Rattle.port_acts.proofs.Failing.{done_with_room}
use Rattle.port_acts.proofs.laws.acts_with_room_are_made.Goals as goal

pub returns : goal.returns
returns g c = done_with_room g.M.Measure.few
