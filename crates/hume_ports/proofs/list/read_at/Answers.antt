use Rattle.std.proofs.Common.{arith}
use Rattle.hume_ports.proofs.Steps.{step_at}
use Rattle.hume_ports.proofs.Rooms.{read_roomy}
use Rattle.hume_ports.proofs.Calls.{read_names, read_untouched, read_taken, read_end, read_failed}
use Rattle.hume_ports.proofs.list.read_at.Goals as goal

pub returns-clause-step : goal.returns-clause-step
returns-clause-step g c = step_at _ _ _ _ _ _ c.requires.place c.read_from.ensures

pub returns-clause-taken : goal.returns-clause-taken
returns-clause-taken g c = read_taken _ _ _ _ _ (returns-clause-step g c)

pub returns-clause-end : goal.returns-clause-end
returns-clause-end g c = read_end _ _ _ _ _ (omega arith) (returns-clause-step g c)

pub returns-clause-failed : goal.returns-clause-failed
returns-clause-failed g c = read_failed _ _ _ _ _ (returns-clause-step g c)

pub returns-clause-roomy : goal.returns-clause-roomy
returns-clause-roomy g c = read_roomy _ _ _ _ _ (returns-clause-step g c)

pub returns-clause-same_names : goal.returns-clause-same_names
returns-clause-same_names g c = read_names _ _ _ _ _ (returns-clause-step g c)

pub returns-clause-untouched : goal.returns-clause-untouched
returns-clause-untouched g c = read_untouched _ _ _ _ _ (returns-clause-step g c)
