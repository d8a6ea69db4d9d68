use Rattle.hume_net.proofs.FoundWires.{to_is, from_is, to_leads, from_comes}
use Rattle.hume_net.proofs.laws.wires_are_found_at_their_ends.Goals as goal

pub returns-clause-input : goal.returns-clause-input
returns-clause-input c = to_is

pub returns-clause-output : goal.returns-clause-output
returns-clause-output c = from_is

pub returns-clause-leads : goal.returns-clause-leads
returns-clause-leads c = to_leads

pub returns-clause-comes : goal.returns-clause-comes
returns-clause-comes c = from_comes
