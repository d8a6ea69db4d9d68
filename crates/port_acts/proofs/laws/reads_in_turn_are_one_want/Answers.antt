use Rattle.port_acts.proofs.Single.{want_unread, want_goes_on, want_stops, read_is_few}
use Rattle.port_acts.proofs.laws.reads_in_turn_are_one_want.Goals as goal

pub returns-clause-start : goal.returns-clause-start
returns-clause-start g c = want_unread

pub returns-clause-on : goal.returns-clause-on
returns-clause-on g c = want_goes_on

pub returns-clause-stop : goal.returns-clause-stop
returns-clause-stop g c = want_stops g.M.Measure.few

pub returns-clause-single : goal.returns-clause-single
returns-clause-single g c = read_is_few g.M.Measure.few
