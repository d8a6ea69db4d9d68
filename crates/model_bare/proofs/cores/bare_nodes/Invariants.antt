use Rattle.std.proofs.Common.{◌≡◌, take, map}
use Rattle.model_bare.specs.Bare.{bare_node}
use Rattle.model_bare.proofs.cores.bare_nodes.Given as goal

abbrev pub invariant-loop-node : goal.invariant-loop-node
invariant-loop-node l = l.copies ≡ map bare_node (take l.node-index l.nodes)
