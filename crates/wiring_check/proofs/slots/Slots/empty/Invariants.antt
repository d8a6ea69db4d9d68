use Rattle.std.proofs.Common.{◌≡◌, ◌++◌, drop}
use Rattle.wiring_check.specs.inner.Slots.{empty_rows}
use Rattle.wiring_check.proofs.slots.Slots.empty.Given as goal

abbrev pub invariant-loop-node : goal.invariant-loop-node
invariant-loop-node l = l.rows.items ++ empty_rows l.side (drop l.node-index l.nodes) ≡ empty_rows l.side l.nodes
