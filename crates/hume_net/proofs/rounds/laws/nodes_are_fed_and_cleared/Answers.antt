use Rattle.hume_net.proofs.rounds_lemmas.OneNode.{fed_one, cleared_one}
use Rattle.hume_net.proofs.rounds.laws.nodes_are_fed_and_cleared.Goals as goal

pub returns-clause-fed : goal.returns-clause-fed
returns-clause-fed c core earlier later piece whole places n node is values it = fed_one core earlier later piece whole places n node is values it

pub returns-clause-cleared : goal.returns-clause-cleared
returns-clause-cleared c core earlier later piece whole places n node is it = cleared_one core earlier later piece whole places n node is it
