use Rattle.port_acts.proofs.Failing.{read_tells, write_tells, finish_tells}
use Rattle.port_acts.proofs.laws.risen_counts_tell_the_act.Goals as goal

pub returns-clause-reads : goal.returns-clause-reads
returns-clause-reads g c = read_tells g.M.Measure.few

pub returns-clause-writes : goal.returns-clause-writes
returns-clause-writes g c = write_tells g.M.Measure.few

pub returns-clause-finishes : goal.returns-clause-finishes
returns-clause-finishes g c = finish_tells g.M.Measure.few
