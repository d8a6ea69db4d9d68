use Rattle.std.proofs.Common.{◌≡◌, take, map}
use Rattle.union_laws.specs.Moving.{moved_node}
use Rattle.std.specs.Prelude.{IfOk}
use Rattle.net_union.proofs.boxes.move_nodes.Given as goal

abbrev pub invariant-loop-node : goal.invariant-loop-node
invariant-loop-node l = IfOk l.higher (λ made. made ≡ map (moved_node l.fn.moves) (take l.node-index l.nodes))
