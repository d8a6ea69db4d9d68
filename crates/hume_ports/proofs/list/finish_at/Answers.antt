use Rattle.hume_ports.proofs.Steps.{step_at}
use Rattle.hume_ports.proofs.Rooms.{finish_roomy}
use Rattle.hume_ports.proofs.Calls.{finish_names, finish_untouched, finish_quiet, finish_flushed, finish_failed}
use Rattle.hume_ports.proofs.list.finish_at.Goals as goal

pub returns-clause-step : goal.returns-clause-step
returns-clause-step g c = step_at _ _ _ _ _ _ c.requires c.finish_of.ensures

pub returns-clause-finished : goal.returns-clause-finished
returns-clause-finished g c = finish_quiet _ _ _ _ (returns-clause-step g c)

pub returns-clause-flushed : goal.returns-clause-flushed
returns-clause-flushed g c = finish_flushed _ _ _ _ (returns-clause-step g c)

pub returns-clause-failed : goal.returns-clause-failed
returns-clause-failed g c = finish_failed _ _ _ _ (returns-clause-step g c)

pub returns-clause-roomy : goal.returns-clause-roomy
returns-clause-roomy g c = finish_roomy _ _ _ _ (returns-clause-step g c)

pub returns-clause-same_names : goal.returns-clause-same_names
returns-clause-same_names g c = finish_names _ _ _ _ (returns-clause-step g c)

pub returns-clause-untouched : goal.returns-clause-untouched
returns-clause-untouched g c = finish_untouched _ _ _ _ (returns-clause-step g c)
