use Rattle.std.proofs.Common.{arith}
use Rattle.std.proofs.Math.Facts.{Fits-of_lt}
use Rattle.trace_print.proofs.table_lemmas.Parts.{part_more, part_fits, stack_below}
use Rattle.trace_print.proofs.table.totals.total_stack.Goals as goal

pub loop-node-preserved : goal.loop-node-preserved
loop-node-preserved c = part_more (λ cost. cost.stack) c.args.core.now c.args.costs.now c.requires.costs c.loop-node.node c.stack-stack.result c.loop-node.stack
    (omega (arith, c.loop-node-test.true, c.len-node-end.ensures)) c.stack-stack.ensures c.loop-node.invariant

pub overflow_add-stack : goal.overflow_add-stack
overflow_add-stack c = Fits-of_lt (part_fits (λ cost. cost.stack) c.args.core.now c.args.costs.now c.requires.costs c.requires.within stack_below c.loop-node.node c.stack-stack.result c.loop-node.stack
    (omega (arith, c.loop-node-test.true, c.len-node-end.ensures)) c.stack-stack.ensures c.loop-node.invariant)
