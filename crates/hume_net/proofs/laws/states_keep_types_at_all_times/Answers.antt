use Rattle.hume_net.proofs.AtTimes.{types_after, types_at}
use Rattle.hume_net.proofs.laws.states_keep_types_at_all_times.Goals as goal

pub returns-clause-supersteps : goal.returns-clause-supersteps
returns-clause-supersteps c = types_after

pub returns-clause-times : goal.returns-clause-times
returns-clause-times c = types_at
