use Rattle.hume_net.proofs.Depths.{mid_within, superstep_within, lockstep_within}
use Rattle.hume_net.proofs.laws.wires_keep_within_their_depths.Goals as goal

pub returns-clause-middle : goal.returns-clause-middle
returns-clause-middle c = mid_within

pub returns-clause-whole : goal.returns-clause-whole
returns-clause-whole c = superstep_within

pub returns-clause-lockstep : goal.returns-clause-lockstep
returns-clause-lockstep c = lockstep_within
