use Rattle.std.proofs.Common.{◌∙◌, ap, arith, Ok, length, refl, subst, sym}
use Rattle.hume_model.specs.declared.core_tree.Core.{Core}
use Rattle.phase_workers.specs.Runnable.{IsRunnable}
use Rattle.hume_console.proofs.StepFills.{all_filled, filling_begun, filling_blocked, filling_failed, node_next}
use Rattle.hume_console.proofs.stepping.fill_inputs.Goals as goal

pub loop-node-init : goal.loop-node-init
loop-node-init g c = filling_begun _ _ _ _

pub fill_node-requires-clause-runnable : goal.fill_node-requires-clause-runnable
fill_node-requires-clause-runnable g c = subst IsRunnable (sym c.loop-node.invariant.is_core) c.requires.runnable

pub fill_node-requires-clause-within : goal.fill_node-requires-clause-within
fill_node-requires-clause-within g c =
    let count = ap (λ (core : Core). length core.nodes) c.loop-node.invariant.is_core in
    omega (arith, c.loop-node-test.true, c.requires.long, count)

pub fill_node-requires-clause-filling : goal.fill_node-requires-clause-filling
fill_node-requires-clause-filling g c =
    (c.requires.filling.0, c.args.places.now, refl, c.loop-node.invariant.stands c.requires.filling.0 c.requires.filling.1)

pub returns-in-Ok-Some-clause-ends : goal.returns-in-Ok-Some-clause-ends
returns-in-Ok-Some-clause-ends g c step begun =
    filling_blocked c.args.want c.args.places.now _ _ _ c.args.engine.now c.loop-node.engine c.fill_node.new.engine c.loop-node.node c.loop-node.invariant _
    c.fill_node.ensures.ends step begun c.in-Ok-Some.line (c.in-Ok-Some.is ∙ ap Ok c.in-Ok-Some.field-0-is)

pub returns-in-Err-clause-ends : goal.returns-in-Err-clause-ends
returns-in-Err-clause-ends g c step begun =
    filling_failed c.args.want c.args.places.now _ _ _ c.args.engine.now c.loop-node.engine c.fill_node.new.engine c.loop-node.node c.loop-node.invariant _
    c.fill_node.ensures.ends step begun c.in-Err.failed c.in-Err.is

pub loop-node-preserved : goal.loop-node-preserved
loop-node-preserved g c =
    node_next c.args.want c.args.places.now _ _ _ c.args.engine.now c.loop-node.engine c.fill_node.new.engine c.loop-node.node c.loop-node.invariant _
    c.fill_node.ensures.ends (c.in-Ok-None.is ∙ ap Ok c.in-Ok-None.field-0-is) c.loop-node-test.true c.fill_node.ensures.core c.fill_node.ensures.same_names

pub returns-clause-ends : goal.returns-clause-ends
returns-clause-ends g c step begun =
    (all_filled c.args.want c.args.places.now _ _ c.args.engine.now c.loop-node.engine c.loop-node.node c.loop-node.invariant
    (omega (arith, c.loop-node-test.false)) step begun).stands

pub returns-clause-same_names : goal.returns-clause-same_names
returns-clause-same_names g c = c.loop-node.invariant.same_names

pub returns-in-Ok-Some-clause-same_names : goal.returns-in-Ok-Some-clause-same_names
returns-in-Ok-Some-clause-same_names g c = c.fill_node.ensures.same_names ∙ c.loop-node.invariant.same_names

pub returns-in-Err-clause-same_names : goal.returns-in-Err-clause-same_names
returns-in-Err-clause-same_names g c = c.fill_node.ensures.same_names ∙ c.loop-node.invariant.same_names
