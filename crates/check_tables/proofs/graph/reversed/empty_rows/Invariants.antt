use Rattle.std.proofs.Common.{◌≡◌, length}
use Rattle.check_tables.proofs.graph.reversed.empty_rows.Given as goal

abbrev pub invariant-loop-node : goal.invariant-loop-node
invariant-loop-node l = length l.rows ≡ l._node
