use Rattle.hume_run.proofs.Alike.{answered_with_room, of_form}
use Rattle.hume_run.proofs.laws.calls_with_room_are_answered.Goals as goal

pub returns : goal.returns
returns c words order olds news status is no_usage line room =
    answered_with_room order olds news status c.each_run_has_inputs.ensures c.each_log_has_one_outcome.ensures.some _ (of_form words order olds news status is line no_usage) room
