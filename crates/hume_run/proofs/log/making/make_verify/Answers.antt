use Rattle.hume_calls.proofs.Answering.{meant}
use Rattle.hume_run.proofs.Logged.{one_port, place_later, verify_failed, verify_made, verify_unfinished}
use Rattle.hume_run.proofs.log.making.make_verify.Goals as goal

pub verify-requires-clause-own : goal.verify-requires-clause-own
verify-requires-clause-own g c = one_port _ _ _ _ c.requires.log.1 c.requires.log.2

pub returns-in-Err : goal.returns-in-Err
returns-in-Err g c port place = verify_failed _ _ _ _ _ _ (c.in-Err.ensures.ends port (meant _ _ _ place))

pub returns-in-Ok-finish_act : goal.returns-in-Ok-finish_act
returns-in-Ok-finish_act g c port place =
    verify_made _ _ _ _ _ _ _ (c.in-Ok.ensures.ends port (meant _ _ _ place))
    (c.in-Ok-finish_act.ensures.ends _ (place_later _ _ _ _ c.requires.out c.in-Ok.ensures.same_names))

pub returns-in-Err-finish_act : goal.returns-in-Err-finish_act
returns-in-Err-finish_act g c port place =
    verify_unfinished _ _ _ _ _ _ _ (c.in-Ok.ensures.ends port (meant _ _ _ place)) _
    (c.in-Err-finish_act.ensures.ends _ (place_later _ _ _ _ c.requires.out c.in-Ok.ensures.same_names))
