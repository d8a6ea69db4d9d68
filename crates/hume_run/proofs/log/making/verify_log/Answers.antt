use Rattle.hume_run.proofs.Logged.{verify_faulted, verify_told}
use Rattle.hume_run.proofs.log.making.verify_log.Goals as goal

pub make_verify-requires-clause-steps : goal.make_verify-requires-clause-steps
make_verify-requires-clause-steps g c = c.requires.steps

pub make_verify-requires-clause-runnable : goal.make_verify-requires-clause-runnable
make_verify-requires-clause-runnable g c = c.requires.runnable

pub make_verify-requires-clause-fresh : goal.make_verify-requires-clause-fresh
make_verify-requires-clause-fresh g c = c.requires.fresh

pub make_verify-requires-clause-places : goal.make_verify-requires-clause-places
make_verify-requires-clause-places g c = c.requires.places

pub make_verify-requires-clause-apart : goal.make_verify-requires-clause-apart
make_verify-requires-clause-apart g c = c.requires.apart

pub make_verify-requires-clause-log : goal.make_verify-requires-clause-log
make_verify-requires-clause-log g c = c.requires.log

pub make_verify-requires-clause-out : goal.make_verify-requires-clause-out
make_verify-requires-clause-out g c = c.requires.out

pub returns-in-Ok : goal.returns-in-Ok
returns-in-Ok g c port place = verify_told _ _ _ _ _ _ c.in-Ok.verdict _ c.in-Ok.is (c.make_verify.ensures port place) c.status_of.ensures

pub returns-in-Err : goal.returns-in-Err
returns-in-Err g c port place = verify_faulted _ _ _ _ _ _ (c.in-Err.ensures port place)
