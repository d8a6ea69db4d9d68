use Rattle.hume_calls.proofs.OneOwed.{some_owed, one_owed}
use Rattle.hume_run.proofs.laws.each_call_owes_one_thing.Goals as goal

pub returns-clause-some : goal.returns-clause-some
returns-clause-some c = some_owed c.each_run_has_inputs.ensures c.each_log_has_one_outcome.ensures.some

pub returns-clause-one : goal.returns-clause-one
returns-clause-one c = one_owed c.inputs_are_unique.ensures c.each_log_has_one_outcome.ensures.one
