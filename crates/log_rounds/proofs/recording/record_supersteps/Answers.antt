use Rattle.std.proofs.Common.{◌∙◌, ap, Ok, subst, sym}
use Rattle.phase_workers.specs.Runnable.{IsRunnable}
use Rattle.run_rounds.specs.Streams.{ArePortsApart}
use Rattle.log_rounds.proofs.RecordEnds.{recording_failed, recording_halted, recording_next, recording_none, recording_over}
use Rattle.log_rounds.proofs.recording.record_supersteps.Goals as goal

pub loop-done-init : goal.loop-done-init
loop-done-init g c = recording_none c.args.log c.args.steps _ c.args.run.now c.requires.whole c.requires.first

pub record_superstep-requires-clause-runnable : goal.record_superstep-requires-clause-runnable
record_superstep-requires-clause-runnable g c = subst IsRunnable (sym c.loop-done.invariant.is_core) c.requires.runnable

pub record_superstep-requires-clause-whole : goal.record_superstep-requires-clause-whole
record_superstep-requires-clause-whole g c = c.loop-done.invariant.is_half

pub record_superstep-requires-clause-apart : goal.record_superstep-requires-clause-apart
record_superstep-requires-clause-apart g c = subst ArePortsApart (sym c.loop-done.invariant.is_core) c.requires.apart

pub returns-in-Err-clause-ends : goal.returns-in-Err-clause-ends
returns-in-Err-clause-ends g c name olds place stands =
    recording_failed c.args.log c.args.steps _ _ _ c.args.run.now c.loop-done.run c.record_superstep.new.run c.loop-done._done c.loop-done.invariant c.loop-done-test.true _
    c.record_superstep.ensures.ends name olds place stands c.in-Err.failed c.in-Err.is

pub returns-in-Ok-Some-clause-ends : goal.returns-in-Ok-Some-clause-ends
returns-in-Ok-Some-clause-ends g c name olds place stands =
    recording_halted c.args.log c.args.steps _ _ _ c.args.run.now c.loop-done.run c.record_superstep.new.run c.loop-done._done c.loop-done.invariant c.loop-done-test.true _
    c.record_superstep.ensures.ends name olds place stands c.in-Ok-Some.bad (c.in-Ok-Some.is ∙ ap Ok c.in-Ok-Some.field-0-is)

pub loop-done-preserved : goal.loop-done-preserved
loop-done-preserved g c =
    recording_next c.args.log c.args.steps _ _ _ c.args.run.now c.loop-done.run c.record_superstep.new.run c.loop-done._done c.loop-done.invariant c.loop-done-test.true _
    c.record_superstep.ensures.ends (c.in-Ok-None.is ∙ ap Ok c.in-Ok-None.field-0-is) c.record_superstep.ensures.next c.record_superstep.ensures.core
    c.record_superstep.ensures.same_names

pub returns-clause-ends : goal.returns-clause-ends
returns-clause-ends g c name olds place stands =
    recording_over c.args.log c.args.steps _ _ c.args.run.now c.loop-done.run c.loop-done._done c.loop-done.invariant c.loop-done-test.false name olds place stands
