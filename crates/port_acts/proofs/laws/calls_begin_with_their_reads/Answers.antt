use Rattle.port_acts.proofs.Stopping.{whole_made, whole_fails, early_fails}
use Rattle.port_acts.proofs.laws.calls_begin_with_their_reads.Goals as goal

pub returns-clause-made : goal.returns-clause-made
returns-clause-made g c = whole_made g.M.Measure.few

pub returns-clause-failed : goal.returns-clause-failed
returns-clause-failed g c = whole_fails g.M.Measure.few

pub returns-clause-early : goal.returns-clause-early
returns-clause-early g c = early_fails g.M.Measure.few
