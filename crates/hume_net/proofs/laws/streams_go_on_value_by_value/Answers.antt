use Rattle.hume_net.proofs.StreamSteps.{taken_until, coming_until, taken_after, coming_after}
use Rattle.hume_net.proofs.laws.streams_go_on_value_by_value.Goals as goal

pub returns-clause-taken : goal.returns-clause-taken
returns-clause-taken c = taken_until

pub returns-clause-coming : goal.returns-clause-coming
returns-clause-coming c = coming_until

pub returns-clause-supersteps_taken : goal.returns-clause-supersteps_taken
returns-clause-supersteps_taken c = taken_after

pub returns-clause-supersteps_coming : goal.returns-clause-supersteps_coming
returns-clause-supersteps_coming c = coming_after
