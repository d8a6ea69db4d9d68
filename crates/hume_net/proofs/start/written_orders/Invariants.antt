use Rattle.std.proofs.Common.{◌≡◌, map, take}
use Rattle.hume_net.specs.Start.{written_order}
use Rattle.hume_net.proofs.start.written_orders.Given as goal

abbrev pub invariant-loop-node : goal.invariant-loop-node
invariant-loop-node l = l.orders ≡ map written_order (take l.node-index l.core.nodes)
