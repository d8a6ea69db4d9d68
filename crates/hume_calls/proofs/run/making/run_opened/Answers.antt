use Rattle.std.proofs.Common.{◌∙◌, ap, Ok}
use Rattle.hume_calls.proofs.Running.{run_blocked, run_done, run_faulted}
use Rattle.hume_calls.proofs.run.making.run_opened.Goals as goal

pub returns-in-Ok-true : goal.returns-in-Ok-true
returns-in-Ok-true g c = run_blocked _ _ _ _ _ _ (c.in-Ok-true.is ∙ ap Ok c.in-Ok-true.field-0-test) c.make_run-ended.ensures

pub returns-in-Ok-false : goal.returns-in-Ok-false
returns-in-Ok-false g c = run_done _ _ _ _ _ _ (c.in-Ok-false.is ∙ ap Ok c.in-Ok-false.field-0-test) c.make_run-ended.ensures

pub returns-in-Err : goal.returns-in-Err
returns-in-Err g c = run_faulted _ _ _ _ _ _ c.in-Err.ensures
