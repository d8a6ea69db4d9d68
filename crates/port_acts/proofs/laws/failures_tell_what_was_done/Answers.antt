use Rattle.port_acts.proofs.Failing.{failure_since, untouched_since}
use Rattle.port_acts.proofs.laws.failures_tell_what_was_done.Goals as goal

pub returns-clause-cause : goal.returns-clause-cause
returns-clause-cause g c = failure_since g.M.Measure.few

pub returns-clause-untouched : goal.returns-clause-untouched
returns-clause-untouched g c = untouched_since g.M.Measure.few
