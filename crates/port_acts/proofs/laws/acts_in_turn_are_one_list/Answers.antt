use Rattle.port_acts.proofs.Failing.{Ends-on, Ends-any, Fails-stop, then_fails}
use Rattle.port_acts.proofs.laws.acts_in_turn_are_one_list.Goals as goal

pub returns-clause-on : goal.returns-clause-on
returns-clause-on g c = Ends-on g.M.Measure.few

pub returns-clause-stop : goal.returns-clause-stop
returns-clause-stop g c = Fails-stop g.M.Measure.few

pub returns-clause-within : goal.returns-clause-within
returns-clause-within g c = λ earlier ts ps act rest whole old mid new. then_fails g.M.Measure.few earlier ps act rest whole ts old mid new

pub returns-clause-any : goal.returns-clause-any
returns-clause-any g c = λ earlier taken acts. Ends-any g.M.Measure.few earlier acts taken
