use Rattle.std.proofs.Common.{take}
use Rattle.space_costs.specs.inner.Standing.{AreNodeCosts}
use Rattle.space_costs.proofs.nodes.node_costs.Given as goal

abbrev pub invariant-loop-node : goal.invariant-loop-node
invariant-loop-node l = AreNodeCosts l.core (take l.node-index l.core.nodes) l.costs
