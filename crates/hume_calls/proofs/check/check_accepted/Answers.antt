use Rattle.hume_calls.proofs.Telling.{check_told, check_failed}
use Rattle.hume_calls.proofs.check.check_accepted.Goals as goal

pub returns-in-Ok-tell_table : goal.returns-in-Ok-tell_table
returns-in-Ok-tell_table g c = check_told _ _ c.args.core.now c.in-Ok-tell_table.ensures

pub returns : goal.returns
returns g c = check_failed _ _ c.args.core.now c.in-Err.ensures
