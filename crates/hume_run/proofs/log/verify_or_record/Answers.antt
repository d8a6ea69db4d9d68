use Rattle.hume_run.proofs.LogTexts.{recorded_as, verified_as}
use Rattle.hume_run.proofs.log.verify_or_record.Goals as goal

pub verify_log-requires-clause-steps : goal.verify_log-requires-clause-steps
verify_log-requires-clause-steps g c = c.requires.steps

pub verify_log-requires-clause-runnable : goal.verify_log-requires-clause-runnable
verify_log-requires-clause-runnable g c = c.requires.runnable

pub verify_log-requires-clause-fresh : goal.verify_log-requires-clause-fresh
verify_log-requires-clause-fresh g c = c.requires.fresh

pub verify_log-requires-clause-places : goal.verify_log-requires-clause-places
verify_log-requires-clause-places g c = c.requires.places

pub verify_log-requires-clause-apart : goal.verify_log-requires-clause-apart
verify_log-requires-clause-apart g c = c.requires.apart

pub verify_log-requires-clause-log : goal.verify_log-requires-clause-log
verify_log-requires-clause-log g c = c.requires.log

pub verify_log-requires-clause-out : goal.verify_log-requires-clause-out
verify_log-requires-clause-out g c = c.requires.out

pub record_log-requires-clause-steps : goal.record_log-requires-clause-steps
record_log-requires-clause-steps g c = c.requires.steps

pub record_log-requires-clause-runnable : goal.record_log-requires-clause-runnable
record_log-requires-clause-runnable g c = c.requires.runnable

pub record_log-requires-clause-fresh : goal.record_log-requires-clause-fresh
record_log-requires-clause-fresh g c = c.requires.fresh

pub record_log-requires-clause-places : goal.record_log-requires-clause-places
record_log-requires-clause-places g c = c.requires.places

pub record_log-requires-clause-apart : goal.record_log-requires-clause-apart
record_log-requires-clause-apart g c = c.requires.apart

pub record_log-requires-clause-log : goal.record_log-requires-clause-log
record_log-requires-clause-log g c = (c.requires.log.0, c.requires.log.1)

pub record_log-requires-clause-out : goal.record_log-requires-clause-out
record_log-requires-clause-out g c = c.requires.out

pub returns-then-verify : goal.returns-then-verify
returns-then-verify g c port place = verified_as c.args.verify port _ _ _ _ _ c.if-verify.true (c.verify_log.ensures port place)

pub returns-else-verify : goal.returns-else-verify
returns-else-verify g c port place = recorded_as c.args.verify port _ _ _ _ _ c.if-verify.false (c.record_log.ensures port place)
