use Rattle.std.proofs.Common.{◌∙◌, ap, arith, Ok, length, subst, sym}
use Rattle.hume_model.specs.declared.core_tree.Core.{Core}
use Rattle.run_rounds.specs.Streams.{ArePortsApart}
use Rattle.phase_workers.specs.Runnable.{IsRunnable}
use Rattle.log_rounds.proofs.FillingInputs.{filling_none, filling_next, filling_blocked, filling_failed, filling_over, place_of_stream}
use Rattle.log_rounds.proofs.filling.fill_inputs.Goals as goal

pub loop-node-init : goal.loop-node-init
loop-node-init g c = filling_none _ _ c.requires.whole

pub fill_node-requires-clause-runnable : goal.fill_node-requires-clause-runnable
fill_node-requires-clause-runnable g c = subst IsRunnable (sym c.loop-node.invariant.is_core) c.requires.runnable

pub fill_node-requires-clause-whole : goal.fill_node-requires-clause-whole
fill_node-requires-clause-whole g c = c.loop-node.invariant.is_half

pub fill_node-requires-clause-apart : goal.fill_node-requires-clause-apart
fill_node-requires-clause-apart g c = subst ArePortsApart (sym c.loop-node.invariant.is_core) c.requires.apart

pub fill_node-requires-clause-within : goal.fill_node-requires-clause-within
fill_node-requires-clause-within g c =
    let count = ap (λ (core : Core). length core.nodes) c.loop-node.invariant.is_core in
    omega (arith, c.loop-node-test.true, c.requires.places.count, count)

pub fill_node-requires-clause-place : goal.fill_node-requires-clause-place
fill_node-requires-clause-place g c stream is =
    place_of_stream _ _ c.args.run.now c.loop-node.run c.loop-node.node c.loop-node.invariant c.args.places.now c.requires.places c.loop-node-test.true stream is

pub returns-in-Err-clause-ends : goal.returns-in-Err-clause-ends
returns-in-Err-clause-ends g c steps done deeds olds stands =
    filling_failed _ _ _ c.args.run.now c.loop-node.run c.fill_node.new.run c.loop-node.node c.loop-node.invariant _ c.fill_node.ensures.ends
    steps done deeds olds stands c.in-Err.failed c.in-Err.is

pub returns-in-Ok-Some-clause-ends : goal.returns-in-Ok-Some-clause-ends
returns-in-Ok-Some-clause-ends g c steps done deeds olds stands =
    filling_blocked _ _ _ c.args.run.now c.loop-node.run c.fill_node.new.run c.loop-node.node c.loop-node.invariant _ c.fill_node.ensures.ends
    steps done deeds olds stands c.in-Ok-Some.line (c.in-Ok-Some.is ∙ ap Ok c.in-Ok-Some.field-0-is)

pub loop-node-preserved : goal.loop-node-preserved
loop-node-preserved g c =
    filling_next _ _ _ c.args.run.now c.loop-node.run c.fill_node.new.run c.loop-node.node c.loop-node.invariant _ c.fill_node.ensures.ends
    (c.in-Ok-None.is ∙ ap Ok c.in-Ok-None.field-0-is) c.fill_node.ensures.core c.fill_node.ensures.half c.fill_node.ensures.superstep c.fill_node.ensures.same_names
    (omega (arith, c.loop-node-test.true, c.requires.places.count))

pub returns-clause-ends : goal.returns-clause-ends
returns-clause-ends g c steps done deeds olds stands =
    filling_over _ _ c.args.run.now c.loop-node.run c.loop-node.node c.loop-node.invariant
    (omega (arith, c.loop-node-test.false, c.requires.places.count)) steps done deeds olds stands
