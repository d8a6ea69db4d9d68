use Rattle.std.proofs.Common.{◌≡◌, drop, ◌==◌}
use Rattle.std.specs.List.{find}
use Rattle.hume_model.specs.declared.core_tree.NodeC.{NodeC}
use Rattle.hume_model.specs.Declarations.{declaration_of}
use Rattle.hume_model.proofs.declarations.node_line.Given as goal

abbrev pub invariant-loop-node : goal.invariant-loop-node
invariant-loop-node l =
    find (λ (node : NodeC). declaration_of node == l.declaration) (drop l.node-index l.nodes)
    ≡ find (λ (node : NodeC). declaration_of node == l.declaration) l.nodes
