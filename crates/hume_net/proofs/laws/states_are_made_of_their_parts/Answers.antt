use Rattle.hume_net.proofs.Parts.{own_state, same_states, same_made}
use Rattle.hume_net.proofs.laws.states_are_made_of_their_parts.Goals as goal

pub returns-clause-own : goal.returns-clause-own
returns-clause-own c = own_state

pub returns-clause-same : goal.returns-clause-same
returns-clause-same c = same_states

pub returns-clause-made : goal.returns-clause-made
returns-clause-made c = same_made
