use Rattle.hume_net.proofs.StatePlaces.{lockstep_state, superstep_places, lockstep_places}
use Rattle.hume_net.proofs.laws.locksteps_have_places.Goals as goal

pub returns-clause-states : goal.returns-clause-states
returns-clause-states c = lockstep_state

pub returns-clause-supersteps : goal.returns-clause-supersteps
returns-clause-supersteps c = superstep_places

pub returns-clause-locksteps : goal.returns-clause-locksteps
returns-clause-locksteps c = lockstep_places
