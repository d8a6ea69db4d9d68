use Rattle.std.proofs.Common.{take}
use Rattle.check_names.specs.inner.NameNodes.{AreNodes}
use Rattle.check_names.proofs.name_nodes.name_nodes.Given as goal

abbrev pub invariant-loop-at : goal.invariant-loop-at
invariant-loop-at l = AreNodes l.first (take l.at l.owners) l.nodes
