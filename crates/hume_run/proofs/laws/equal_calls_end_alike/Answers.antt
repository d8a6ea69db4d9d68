use Rattle.hume_run.proofs.Alike.{answers_alike, of_form}
use Rattle.hume_calls.proofs.LogWords.{calls_name_further}
use Rattle.hume_run.proofs.laws.equal_calls_end_alike.Goals as goal

pub returns : goal.returns
returns c words order olds news others later status other is there same first second through too =
    answers_alike order olds news others later status other c.inputs_are_unique.ensures c.each_log_has_one_outcome.ensures.one same _ (calls_name_further words order is) there
    (of_form words order olds news status is first through.0) (of_form words order others later other is second too.0) through too
