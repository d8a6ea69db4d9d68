use Rattle.std.proofs.Common.{◌∙◌, ap, arith, length, subst, sym}
use Rattle.hume_model.specs.declared.core_tree.Core.{Core}
use Rattle.phase_workers.specs.Runnable.{IsRunnable}
use Rattle.run_rounds.proofs.Clearings.{draining_none, draining_next, draining_failed, draining_made, draining_cleared, place_of_output}
use Rattle.run_rounds.proofs.draining.drain_outputs.Goals as goal

pub loop-node-init : goal.loop-node-init
loop-node-init g c = draining_none _ _ _ c.requires.parts

pub drain_node-requires-clause-runnable : goal.drain_node-requires-clause-runnable
drain_node-requires-clause-runnable g c = subst IsRunnable (sym c.loop-node.invariant.is_core) c.requires.runnable

pub drain_node-requires-clause-within : goal.drain_node-requires-clause-within
drain_node-requires-clause-within g c =
    let count = ap (λ (core : Core). length core.nodes) c.loop-node.invariant.is_core in
    omega (arith, c.loop-node-test.true, c.requires.places.count, count)

pub drain_node-requires-clause-room : goal.drain_node-requires-clause-room
drain_node-requires-clause-room g c = omega (arith, c.requires.room, c.loop-node.invariant.room)

pub drain_node-requires-clause-place : goal.drain_node-requires-clause-place
drain_node-requires-clause-place g c stream is =
    place_of_output _ _ c.args.engine.now c.loop-node.engine _ _ c.loop-node.node c.loop-node.invariant c.args.places.now c.requires.places c.loop-node-test.true stream is

pub loop-node-preserved : goal.loop-node-preserved
loop-node-preserved g c =
    draining_next _ _ _ c.args.engine.now c.loop-node.engine c.drain_node.new.engine _ _ c.drain_node.new.chunk c.loop-node.node c.loop-node.invariant
    (omega (arith, c.loop-node-test.true, c.requires.places.count)) _ c.in-Ok.is c.drain_node.ensures.ends c.drain_node.ensures.core c.drain_node.ensures.span
    c.drain_node.ensures.queues c.drain_node.ensures.peaks c.drain_node.ensures.same_names c.drain_node.ensures.room c.drain_node.ensures.clears

pub returns-in-Err-clause-ends : goal.returns-in-Err-clause-ends
returns-in-Err-clause-ends g c =
    draining_failed _ _ _ c.args.engine.now c.loop-node.engine c.drain_node.new.engine _ _ c.drain_node.new.chunk c.loop-node.node c.loop-node.invariant
    (omega (arith, c.loop-node-test.true, c.requires.places.count)) _ c.in-Err.failed c.in-Err.is c.drain_node.ensures.ends

pub returns-clause-ends : goal.returns-clause-ends
returns-clause-ends g c =
    draining_made _ _ c.args.engine.now c.loop-node.engine _ _ c.loop-node.node c.loop-node.invariant (omega (arith, c.loop-node-test.false, c.requires.places.count))

pub returns-clause-clears : goal.returns-clause-clears
returns-clause-clears g c =
    draining_cleared _ _ c.args.engine.now c.loop-node.engine _ _ c.loop-node.node c.loop-node.invariant (omega (arith, c.loop-node-test.false, c.requires.places.count))

pub returns-in-Err-clause-queues : goal.returns-in-Err-clause-queues
returns-in-Err-clause-queues g c n = c.drain_node.ensures.queues n ∙ c.loop-node.invariant.queues n
