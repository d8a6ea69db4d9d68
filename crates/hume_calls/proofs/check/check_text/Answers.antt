use Rattle.hume_calls.proofs.Runnable.{bounded}
use Rattle.hume_calls.proofs.Answering.{check_text, refused_check}
use Rattle.hume_calls.proofs.check.check_text.Goals as goal

pub check_accepted-status-requires-clause-bounds : goal.check_accepted-status-requires-clause-bounds
check_accepted-status-requires-clause-bounds g c = bounded _ _ c.in-Ok.ensures.accepted

pub returns-in-Ok : goal.returns-in-Ok
returns-in-Ok g c place named = check_text place named _ _ _ _ c.in-Ok.accepted c.in-Ok.ensures.accepted c.check_accepted-status.ensures

pub returns-in-Err : goal.returns-in-Err
returns-in-Err g c place named = refused_check place named _ _ _ _ (c.end_unaccepted.ensures _ c.in-Err.ensures.error)
