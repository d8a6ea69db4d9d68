use Rattle.hume_streams.proofs.WithoutValues.{hold_values, leave_values}
use Rattle.hume_streams.proofs.laws.queues_are_right_without_what_they_hold.Goals as goal

pub returns-clause-without : goal.returns-clause-without
returns-clause-without c types ty queue text rest given right = leave_values types ty queue text given rest right

pub returns-clause-with : goal.returns-clause-with
returns-clause-with c types ty queue text rest given held words right = hold_values types ty queue text given held rest words right
