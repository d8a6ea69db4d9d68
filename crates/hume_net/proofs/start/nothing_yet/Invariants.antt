use Rattle.std.proofs.Common.{◌≡◌, []}
use Rattle.hume_net.specs.Sides.{numbered}
use Rattle.hume_net.proofs.start.nothing_yet.Given as goal

abbrev pub invariant-loop-node : goal.invariant-loop-node
invariant-loop-node l = l.lists ≡ numbered l._node (λ node. [])
