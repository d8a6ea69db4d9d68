use Rattle.hume_calls.proofs.Telling.{check_fails, check_ends}
use Rattle.hume_calls.proofs.check.tell_table.Goals as goal

pub returns-in-Err : goal.returns-in-Err
returns-in-Err g c = check_fails _ _ c.requires.out c.args.core.now _ c.in-Err.ensures.ends

pub returns : goal.returns
returns g c = check_ends _ _ c.requires.out c.args.core.now _ _ _ c.in-Ok.ensures.ends c.in-Ok.ensures.same_names c.finish_act.ensures.ends
