use Rattle.port_acts.proofs.Stopping.{early_nothing, early_untouched, early_quiet}
use Rattle.port_acts.proofs.laws.early_ends_write_nothing.Goals as goal

pub returns-clause-delivered : goal.returns-clause-delivered
returns-clause-delivered g c = λ reads no_memory fault status old new. early_nothing g.M.Measure.few reads no_memory fault old new status

pub returns-clause-untouched : goal.returns-clause-untouched
returns-clause-untouched g c = λ reads no_memory fault status old new. early_untouched g.M.Measure.few reads no_memory fault old new status

pub returns-clause-quiet : goal.returns-clause-quiet
returns-clause-quiet g c = λ reads no_memory fault status old new. early_quiet g.M.Measure.few reads no_memory fault old new status
