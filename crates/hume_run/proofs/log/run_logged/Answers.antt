use Rattle.hume_run.proofs.log.run_logged.Goals as goal

pub verify_or_record-status-requires-clause-steps : goal.verify_or_record-status-requires-clause-steps
verify_or_record-status-requires-clause-steps g c = c.requires.steps

pub verify_or_record-status-requires-clause-runnable : goal.verify_or_record-status-requires-clause-runnable
verify_or_record-status-requires-clause-runnable g c = c.requires.runnable

pub verify_or_record-status-requires-clause-fresh : goal.verify_or_record-status-requires-clause-fresh
verify_or_record-status-requires-clause-fresh g c = c.requires.fresh

pub verify_or_record-status-requires-clause-places : goal.verify_or_record-status-requires-clause-places
verify_or_record-status-requires-clause-places g c = c.requires.places

pub verify_or_record-status-requires-clause-apart : goal.verify_or_record-status-requires-clause-apart
verify_or_record-status-requires-clause-apart g c = c.requires.apart

pub verify_or_record-status-requires-clause-log : goal.verify_or_record-status-requires-clause-log
verify_or_record-status-requires-clause-log g c = c.requires.log

pub verify_or_record-status-requires-clause-out : goal.verify_or_record-status-requires-clause-out
verify_or_record-status-requires-clause-out g c = c.requires.out

pub returns : goal.returns
returns g c = c.verify_or_record-status.ensures
