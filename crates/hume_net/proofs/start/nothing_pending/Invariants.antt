use Rattle.std.proofs.Common.{◌≡◌, None}
use Rattle.hume_net.specs.Sides.{numbered}
use Rattle.hume_net.proofs.start.nothing_pending.Given as goal

abbrev pub invariant-loop-node : goal.invariant-loop-node
invariant-loop-node l = l.pending ≡ numbered l._node (λ node. None)
