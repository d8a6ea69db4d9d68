use Rattle.std.specs.Prelude.{◌≡◌}
use Rattle.trace_print.proofs.table_lemmas.Parts.{part_before}
use Rattle.trace_print.proofs.table.totals.total_stack.Given as goal

abbrev pub invariant-loop-node : goal.invariant-loop-node
invariant-loop-node l = l.stack ≡ part_before (λ cost. cost.stack) l.core l.node
