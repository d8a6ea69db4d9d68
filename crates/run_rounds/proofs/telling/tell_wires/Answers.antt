use Rattle.std.proofs.Common.{◌∙◌, ap, arith, length, refl, slice_get}
use Rattle.hume_model.specs.declared.core_tree.Core.{Core}
use Rattle.hume_net.specs.Sides.{on_wire}
use Rattle.port_acts.proofs.Making.{Made-start}
use Rattle.phase_workers.specs.Engines.{core_of, state_of}
use Rattle.trace_print.specs.TraceLines.{line_there}
use Rattle.run_rounds.proofs.Tellings.{telling_none, telling_next, telling_failed, telling_over}
use Rattle.run_rounds.proofs.telling.tell_wires.Goals as goal

pub loop-wire-init : goal.loop-wire-init
loop-wire-init g c = telling_none _ _ _ _ _ _ refl refl (Made-start _)

pub tell_wire-requires-clause-there : goal.tell_wire-requires-clause-there
tell_wire-requires-clause-there g c =
    let count = c.len-count.ensures ∙ ap (λ (core : Core). length core.wires) c.core.ensures in
    omega (arith, c.loop-wire-test.true, count)

pub loop-wire-preserved : goal.loop-wire-preserved
loop-wire-preserved g c =
    telling_next _ _ _ _
    (λ w. line_there (core_of c.args.engine.now) (on_wire (state_of c.args.engine.now) w) (slice_get (core_of c.args.engine.now).wires w))
    _ _ c.tell_wire.new.chunk c.loop-wire.wire c.loop-wire.invariant _ c.in-Ok.is c.tell_wire.ensures.ends
    c.tell_wire.ensures.same_names c.tell_wire.ensures.room

pub returns-in-Err-clause-ends : goal.returns-in-Err-clause-ends
returns-in-Err-clause-ends g c =
    let count = c.len-count.ensures ∙ ap (λ (core : Core). length core.wires) c.core.ensures in
    telling_failed _ _ _ _
    (λ w. line_there (core_of c.args.engine.now) (on_wire (state_of c.args.engine.now) w) (slice_get (core_of c.args.engine.now).wires w))
    _ _ c.tell_wire.new.chunk c.loop-wire.wire c.loop-wire.invariant (length (core_of c.args.engine.now).wires)
    (omega (arith, c.loop-wire-test.true, count)) _ c.in-Err.failed c.in-Err.is c.tell_wire.ensures.ends

pub returns-clause-ends : goal.returns-clause-ends
returns-clause-ends g c =
    let count = c.len-count.ensures ∙ ap (λ (core : Core). length core.wires) c.core.ensures in
    telling_over _ _ _
    (λ w. line_there (core_of c.args.engine.now) (on_wire (state_of c.args.engine.now) w) (slice_get (core_of c.args.engine.now).wires w))
    _ _ c.loop-wire.wire (length (core_of c.args.engine.now).wires) c.loop-wire.invariant
    (omega (arith, c.loop-wire-test.false, c.loop-wire.auto.wire-end, count))
