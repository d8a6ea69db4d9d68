use Rattle.std.proofs.Common.{◌^◌, ap, arith, length, subst, sym}
use Rattle.hume_model.specs.declared.core_tree.Core.{Core}
use Rattle.phase_workers.specs.Runnable.{IsRunnable}
use Rattle.demo_rounds.proofs.NodeTotals.{counting_none, few_values, counting_next, counting_cleared, counting_over}
use Rattle.demo_rounds.proofs.counting.count_outputs.Goals as goal

pub loop-node-init : goal.loop-node-init
loop-node-init c = counting_none c.args.engine.now c.args.totals.now c.requires.parts

pub count_node-requires-clause-runnable : goal.count_node-requires-clause-runnable
count_node-requires-clause-runnable c = subst IsRunnable (sym c.loop-node.invariant.is_core) c.requires.runnable

pub count_node-requires-clause-within : goal.count_node-requires-clause-within
count_node-requires-clause-within c =
    let nodes = ap (λ (core : Core). length core.nodes) c.loop-node.invariant.is_core in
    omega (arith, c.loop-node-test.true, c.requires.totals.1.count, nodes)

pub count_node-requires-clause-few : goal.count_node-requires-clause-few
count_node-requires-clause-few c output =
    few_values c.args.engine.now c.loop-node.engine c.args.totals.now c.loop-node.totals c.loop-node.node c.loop-node.invariant
    (omega (arith, c.loop-node-test.true, c.loop-node.invariant.long)) _
    c.requires.totals.0 (2 ^ 61) (omega arith) c.requires.totals.1 output

pub loop-node-preserved : goal.loop-node-preserved
loop-node-preserved c =
    counting_next c.args.engine.now c.loop-node.engine c.args.totals.now c.loop-node.totals c.loop-node.node c.loop-node.invariant
    (omega (arith, c.loop-node-test.true, c.loop-node.invariant.long)) _
    c.count_node.new.engine c.count_node.new.total c.count_node.ensures.core c.count_node.ensures.span c.count_node.ensures.clears
    c.count_node.ensures.total c.count_node.ensures.few

pub returns-clause-clears : goal.returns-clause-clears
returns-clause-clears c =
    counting_cleared c.args.engine.now c.loop-node.engine c.args.totals.now c.loop-node.totals c.loop-node.node c.loop-node.invariant
    (omega (arith, c.loop-node-test.false, c.loop-node.invariant.long, c.requires.totals.1.count))

pub returns-clause-totals : goal.returns-clause-totals
returns-clause-totals c values few small are =
    counting_over c.args.engine.now c.loop-node.engine c.args.totals.now c.loop-node.totals c.loop-node.node c.loop-node.invariant
    (omega (arith, c.loop-node-test.false, c.loop-node.invariant.long, c.requires.totals.1.count)) values few are
