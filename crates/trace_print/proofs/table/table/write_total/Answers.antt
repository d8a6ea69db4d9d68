use Rattle.std.proofs.Common.{◌∙◌, refl}
use Rattle.trace_print.proofs.LinesInTurn.{one_line}
use Rattle.trace_print.proofs.table_lemmas.Lines.{total_told}
use Rattle.trace_print.proofs.table.table.write_total.Goals as goal

pub returns-clause-ends : goal.returns-clause-ends
returns-clause-ends g c = one_line _ c.bytes.result.now c.bytes.result.now _ _ _ _
    (total_told c.args.core.now _ c.bytes.result.now c.total_heap-heap.result c.total_stack-stack.result c.clear.ensures.bytes c.total_heap-heap.ensures c.total_stack-stack.ensures
    (c.bytes.ensures ∙ c.total_line.ensures.line)) refl c.write_act.ensures.ends
