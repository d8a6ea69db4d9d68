use Rattle.std.proofs.Common.{◌∙◌, ap, arith, length, refl, subst, sym}
use Rattle.hume_model.specs.declared.core_tree.Core.{Core}
use Rattle.phase_workers.specs.Runnable.{IsRunnable}
use Rattle.hume_console.proofs.Drains.{draining_cleared, draining_failed, draining_made, draining_next, draining_none, drains_within, quiet_as}
use Rattle.hume_console.proofs.stepping.drain_outputs.Goals as goal

pub loop-node-init : goal.loop-node-init
loop-node-init g c = draining_none _ _ _ _

pub drain_node-requires-clause-runnable : goal.drain_node-requires-clause-runnable
drain_node-requires-clause-runnable g c = subst IsRunnable (sym c.loop-node.invariant.is_core) c.requires.runnable

pub drain_node-requires-clause-within : goal.drain_node-requires-clause-within
drain_node-requires-clause-within g c =
    let count = ap (λ (core : Core). length core.nodes) c.loop-node.invariant.is_core in
    omega (arith, c.loop-node-test.true, c.requires.places.long, count)

pub drain_node-requires-clause-room : goal.drain_node-requires-clause-room
drain_node-requires-clause-room g c = omega (arith, c.requires.room, c.loop-node.invariant.room)

pub drain_node-requires-clause-place : goal.drain_node-requires-clause-place
drain_node-requires-clause-place g c stream is =
    drains_within _ c.args.ports.now c.loop-node.ports c.args.engine.now c.loop-node.engine _ _ c.args.places.now c.loop-node.node c.loop-node.invariant c.requires.places stream is

pub loop-node-preserved : goal.loop-node-preserved
loop-node-preserved g c =
    draining_next _ _ _ c.args.engine.now c.loop-node.engine c.drain_node.new.engine _ _ c.drain_node.new.chunk c.args.places.now c.loop-node.node _ c.loop-node.invariant
    (omega (arith, c.loop-node-test.true, c.requires.places.long)) refl _ c.in-Ok.is c.drain_node.ensures.ends
    (quiet_as _ _ _ _ _ _ c.loop-node.invariant.is_core c.drain_node.ensures.quiet) c.drain_node.ensures.core c.drain_node.ensures.span
    c.drain_node.ensures.queues c.drain_node.ensures.peaks c.drain_node.ensures.same_names c.drain_node.ensures.room c.drain_node.ensures.cleared

pub returns-in-Err-clause-ends : goal.returns-in-Err-clause-ends
returns-in-Err-clause-ends g c port have =
    draining_failed _ _ _ c.args.engine.now c.loop-node.engine c.drain_node.new.engine _ _ c.drain_node.new.chunk c.args.places.now c.loop-node.node _ c.loop-node.invariant
    (omega (arith, c.loop-node-test.true, c.requires.places.long)) refl _ c.in-Err.failed c.in-Err.is c.drain_node.ensures.ends
    (quiet_as _ _ _ _ _ _ c.loop-node.invariant.is_core c.drain_node.ensures.quiet) port have

pub returns-clause-ends : goal.returns-clause-ends
returns-clause-ends g c port have =
    draining_made _ _ c.args.engine.now c.loop-node.engine _ _ c.args.places.now c.loop-node.node c.loop-node.invariant
    (omega (arith, c.loop-node-test.false, c.requires.places.long)) port have

pub returns-clause-cleared : goal.returns-clause-cleared
returns-clause-cleared g c only =
    draining_cleared _ _ c.args.engine.now c.loop-node.engine _ _ c.args.places.now c.loop-node.node c.loop-node.invariant
    (omega (arith, c.loop-node-test.false, c.requires.places.long)) c.requires.parts only

pub returns-in-Err-clause-queues : goal.returns-in-Err-clause-queues
returns-in-Err-clause-queues g c n = c.drain_node.ensures.queues n ∙ c.loop-node.invariant.queues n

pub returns-clause-same_names : goal.returns-clause-same_names
returns-clause-same_names g c = c.loop-node.invariant.same_names

pub returns-in-Err-clause-same_names : goal.returns-in-Err-clause-same_names
returns-in-Err-clause-same_names g c = c.drain_node.ensures.same_names ∙ c.loop-node.invariant.same_names
