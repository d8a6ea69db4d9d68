use Rattle.hume_net.proofs.Plans.{wires_counted, producer_there, consumer_there, producer_is, consumer_is}
use Rattle.hume_net.proofs.laws.plans_join_nodes.Goals as goal

pub returns-clause-count : goal.returns-clause-count
returns-clause-count c = wires_counted

pub returns-clause-lists : goal.returns-clause-lists
returns-clause-lists c core w wire found = (producer_there core w wire found, consumer_there core w wire found)

pub returns-clause-ends : goal.returns-clause-ends
returns-clause-ends c core w wire found = (producer_is core w wire found, consumer_is core w wire found)
