use Rattle.std.proofs.Common.{arith, refl, ◌∙◌}
use Rattle.trace_print.proofs.table_lemmas.Bounds.{item_at}
use Rattle.trace_print.proofs.table_lemmas.Lines.{none_first, one_first, one_fails, all_first}
use Rattle.trace_print.proofs.table.table.write_boxes.Goals as goal

pub loop-node-init : goal.loop-node-init
loop-node-init g c = (none_first c.args.core.now _ _, refl)

pub loop-node-preserved : goal.loop-node-preserved
loop-node-preserved g c =
    let found = item_at c.args.core.now.nodes c.loop-node.node (omega (arith, c.loop-node-test.true, c.len-node-end.ensures)) in (
      one_first _ _ _ _ _ _ found.0 found.1 c.loop-node.invariant.0 (c.in-Ok.ensures.ends found.0 found.1) c.in-Ok.ensures.same_names,
      c.in-Ok.ensures.room ∙ c.loop-node.invariant.1,
    )

pub returns-in-Err-clause-ends : goal.returns-in-Err-clause-ends
returns-in-Err-clause-ends g c =
    let found = item_at c.args.core.now.nodes c.loop-node.node (omega (arith, c.loop-node-test.true, c.len-node-end.ensures)) in
    one_fails _ _ _ _ _ _ found.0 found.1 c.loop-node.invariant.0 (c.in-Err.ensures.ends found.0 found.1)

pub returns-clause-ends : goal.returns-clause-ends
returns-clause-ends g c = all_first c.args.core.now _ _ _ c.loop-node.node (omega (arith, c.loop-node-test.false, c.len-node-end.ensures)) c.loop-node.invariant.0
