use Rattle.std.proofs.Common.{◌∙◌, ap, arith, length, sym, subst}
use Rattle.hume_model.specs.declared.core_tree.Core.{Core}
use Rattle.phase_workers.specs.Runnable.{IsRunnable}
use Rattle.run_log.proofs.Forgotten.{all_forgotten, next_forgotten}
use Rattle.run_log.proofs.forgetting.forget_taken.Goals as goal

pub forget_node-requires-clause-runnable : goal.forget_node-requires-clause-runnable
forget_node-requires-clause-runnable c = subst IsRunnable (sym c.loop-node.invariant.is_core) c.requires.runnable

pub forget_node-requires-clause-within : goal.forget_node-requires-clause-within
forget_node-requires-clause-within c =
    let count = c.len-count.ensures ∙ ap (λ (core : Core). length core.nodes) c.core.ensures in
    let same = ap (λ (core : Core). length core.nodes) c.loop-node.invariant.is_core in
    omega (arith, c.loop-node-test.true, count, same)

pub loop-node-preserved : goal.loop-node-preserved
loop-node-preserved c =
    next_forgotten c.args.engine.now c.loop-node.engine c.forget_node.new.engine c.loop-node.node c.loop-node.invariant c.forget_node.ensures.core
    c.forget_node.ensures.span c.forget_node.ensures.queues c.forget_node.ensures.forgets

pub returns-clause-state : goal.returns-clause-state
returns-clause-state c =
    let count = c.len-count.ensures ∙ ap (λ (core : Core). length core.nodes) c.core.ensures in
    all_forgotten c.args.engine.now c.loop-node.engine c.loop-node.node c.loop-node.invariant
    (omega (arith, c.loop-node-test.false, c.loop-node.auto.node-end, count))
