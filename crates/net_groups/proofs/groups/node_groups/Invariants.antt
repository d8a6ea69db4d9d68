use Rattle.std.proofs.Common.{◌≡◌, length}
use Rattle.net_groups.specs.inner.Below.{AreBelow}
use Rattle.net_groups.proofs.groups.node_groups.Given as goal

abbrev pub invariant-loop-node : goal.invariant-loop-node
invariant-loop-node l = (length l.group ≡ l.node) × AreBelow l.count l.node l.group
