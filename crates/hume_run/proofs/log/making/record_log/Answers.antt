use Rattle.std.proofs.Common.{◌∙◌, ap, Ok}
use Rattle.hume_run.proofs.Logged.{record_blocked, record_done, record_faulted}
use Rattle.hume_run.proofs.log.making.record_log.Goals as goal

pub make_record-requires-clause-steps : goal.make_record-requires-clause-steps
make_record-requires-clause-steps g c = c.requires.steps

pub make_record-requires-clause-runnable : goal.make_record-requires-clause-runnable
make_record-requires-clause-runnable g c = c.requires.runnable

pub make_record-requires-clause-fresh : goal.make_record-requires-clause-fresh
make_record-requires-clause-fresh g c = c.requires.fresh

pub make_record-requires-clause-places : goal.make_record-requires-clause-places
make_record-requires-clause-places g c = c.requires.places

pub make_record-requires-clause-apart : goal.make_record-requires-clause-apart
make_record-requires-clause-apart g c = c.requires.apart

pub make_record-requires-clause-log : goal.make_record-requires-clause-log
make_record-requires-clause-log g c = c.requires.log

pub make_record-requires-clause-out : goal.make_record-requires-clause-out
make_record-requires-clause-out g c = c.requires.out

pub returns-in-Ok-true : goal.returns-in-Ok-true
returns-in-Ok-true g c port place =
    record_blocked _ _ _ _ _ _ (c.in-Ok-true.is ∙ ap Ok c.in-Ok-true.field-0-test) (c.make_record.ensures port place)

pub returns-in-Ok-false : goal.returns-in-Ok-false
returns-in-Ok-false g c port place =
    record_done _ _ _ _ _ _ (c.in-Ok-false.is ∙ ap Ok c.in-Ok-false.field-0-test) (c.make_record.ensures port place)

pub returns-in-Err : goal.returns-in-Err
returns-in-Err g c port place = record_faulted _ _ _ _ _ _ (c.in-Err.ensures port place)
