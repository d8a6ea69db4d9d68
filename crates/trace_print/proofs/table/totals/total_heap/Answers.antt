use Rattle.std.proofs.Common.{arith}
use Rattle.std.proofs.Math.Facts.{Fits-of_lt}
use Rattle.trace_print.proofs.table_lemmas.Parts.{part_more, part_fits, heap_below}
use Rattle.trace_print.proofs.table.totals.total_heap.Goals as goal

pub loop-node-preserved : goal.loop-node-preserved
loop-node-preserved c = part_more (λ cost. cost.heap) c.args.core.now c.args.costs.now c.requires.costs c.loop-node.node c.heap-heap.result c.loop-node.heap
    (omega (arith, c.loop-node-test.true, c.len-node-end.ensures)) c.heap-heap.ensures c.loop-node.invariant

pub overflow_add-heap : goal.overflow_add-heap
overflow_add-heap c = Fits-of_lt (part_fits (λ cost. cost.heap) c.args.core.now c.args.costs.now c.requires.costs c.requires.within heap_below c.loop-node.node c.heap-heap.result c.loop-node.heap
    (omega (arith, c.loop-node-test.true, c.len-node-end.ensures)) c.heap-heap.ensures c.loop-node.invariant)
