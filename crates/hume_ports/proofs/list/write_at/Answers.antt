use Rattle.hume_ports.proofs.Steps.{step_at}
use Rattle.hume_ports.proofs.Rooms.{write_roomy}
use Rattle.hume_ports.proofs.Calls.{write_names, write_untouched, write_given, write_failed}
use Rattle.hume_ports.proofs.list.write_at.Goals as goal

pub returns-clause-step : goal.returns-clause-step
returns-clause-step g c = step_at _ _ _ _ _ _ c.requires c.write_to.ensures

pub returns-clause-given : goal.returns-clause-given
returns-clause-given g c = write_given _ _ _ _ _ (returns-clause-step g c)

pub returns-clause-failed : goal.returns-clause-failed
returns-clause-failed g c = write_failed _ _ _ _ _ (returns-clause-step g c)

pub returns-clause-roomy : goal.returns-clause-roomy
returns-clause-roomy g c name e = write_roomy _ _ name _ _ _ e (returns-clause-step g c)

pub returns-clause-same_names : goal.returns-clause-same_names
returns-clause-same_names g c = write_names _ _ _ _ _ (returns-clause-step g c)

pub returns-clause-untouched : goal.returns-clause-untouched
returns-clause-untouched g c = write_untouched _ _ _ _ _ (returns-clause-step g c)
