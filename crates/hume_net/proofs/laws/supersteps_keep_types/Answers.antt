use Rattle.hume_net.proofs.StateTypes.{mid_typed, superstep_typed}
use Rattle.hume_net.proofs.laws.supersteps_keep_types.Goals as goal

pub returns-clause-middle : goal.returns-clause-middle
returns-clause-middle c = mid_typed

pub returns-clause-whole : goal.returns-clause-whole
returns-clause-whole c = superstep_typed
