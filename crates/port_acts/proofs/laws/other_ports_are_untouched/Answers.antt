use Rattle.port_acts.proofs.Failing.{Ends-untouched}
use Rattle.port_acts.proofs.laws.other_ports_are_untouched.Goals as goal

pub returns : goal.returns
returns g c = Ends-untouched g.M.Measure.few
