use Rattle.hume_net.proofs.Parts.{made_state, made_part, made_wire}
use Rattle.hume_net.proofs.laws.made_states_have_their_parts.Goals as goal

pub returns-clause-places : goal.returns-clause-places
returns-clause-places c = made_state

pub returns-clause-parts : goal.returns-clause-parts
returns-clause-parts c = made_part

pub returns-clause-wires : goal.returns-clause-wires
returns-clause-wires c = made_wire
