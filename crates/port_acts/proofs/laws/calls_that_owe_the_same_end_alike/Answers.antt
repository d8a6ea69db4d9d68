use Rattle.port_acts.proofs.Stopping.{Owed-same, end_alike}
use Rattle.port_acts.proofs.laws.calls_that_owe_the_same_end_alike.Goals as goal

pub returns-clause-same : goal.returns-clause-same
returns-clause-same g c = Owed-same

pub returns-clause-alike : goal.returns-clause-alike
returns-clause-alike g c = λ owed fault status other old new others later. end_alike g.M.Measure.few owed fault old new others later status other
