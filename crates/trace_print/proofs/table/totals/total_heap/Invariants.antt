use Rattle.std.specs.Prelude.{◌≡◌}
use Rattle.trace_print.proofs.table_lemmas.Parts.{part_before}
use Rattle.trace_print.proofs.table.totals.total_heap.Given as goal

abbrev pub invariant-loop-node : goal.invariant-loop-node
invariant-loop-node l = l.heap ≡ part_before (λ cost. cost.heap) l.core l.node
