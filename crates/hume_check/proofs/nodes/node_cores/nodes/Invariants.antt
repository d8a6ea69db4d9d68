use Rattle.hume_check.proofs.nodes_lemmas.NodeLaws.{AreMade}
use Rattle.hume_check.proofs.nodes.node_cores.nodes.Given as goal

-- the nodes so far are made
abbrev pub invariant-loop-i : goal.invariant-loop-i
invariant-loop-i l = AreMade l.lines l.table l.decls l.i l.nodes
