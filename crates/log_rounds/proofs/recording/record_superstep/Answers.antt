use Rattle.std.proofs.Common.{◌∙◌, ap, Ok, Err, None}
use Rattle.hume_ports.specs.Ports.{place_of}
use Rattle.run_log.specs.Moments.{block_at, core_in, moment_of, next_half}
use Rattle.log_rounds.specs.inner.Steps.{recorded}
use Rattle.log_rounds.proofs.RecordSteps.{end_failed, end_noted, ends_known, fill_failed, fills_as, first_fill, mid_failed}
use Rattle.log_rounds.proofs.recording.record_superstep.Goals as goal

pub returns-in-Ok-Some-clause-ends : goal.returns-in-Ok-Some-clause-ends
returns-in-Ok-Some-clause-ends g c name steps done olds less place stands =
    let filling = first_fill (core_in c.args.run.now) steps done (recorded (core_in c.args.run.now) name steps done) olds _ c.args.run.now less stands in
    record {
      done = done;
      blocked = fills_as (core_in c.args.run.now) steps done (recorded (core_in c.args.run.now) name steps done) olds _ c.fill_inputs.new.run _ _ (c.in-Ok-Some.is ∙ ap Ok c.in-Ok-Some.field-0-is)
          (c.fill_inputs.ensures.ends steps done (recorded (core_in c.args.run.now) name steps done) olds filling);
    }

pub returns-in-Err-clause-ends : goal.returns-in-Err-clause-ends
returns-in-Err-clause-ends g c name steps done olds less place stands =
    let filling = first_fill (core_in c.args.run.now) steps done (recorded (core_in c.args.run.now) name steps done) olds _ c.args.run.now less stands in
    fill_failed (core_in c.args.run.now) name steps done olds _
    (fills_as (core_in c.args.run.now) steps done (recorded (core_in c.args.run.now) name steps done) olds _ c.fill_inputs.new.run _ (Err c.in-Err.failed) c.in-Err.is
    (c.fill_inputs.ensures.ends steps done (recorded (core_in c.args.run.now) name steps done) olds filling))

pub returns-in-Err-record_half-clause-ends : goal.returns-in-Err-record_half-clause-ends
returns-in-Err-record_half-clause-ends g c name steps done olds less place stands =
    let core = core_in c.args.run.now in
    let filling = first_fill core steps done (recorded core name steps done) olds _ c.args.run.now less stands in
    let filled = fills_as core steps done (recorded core name steps done) olds _ c.fill_inputs.new.run _ (Ok None) (c.in-Ok-None.is ∙ ap Ok c.in-Ok-None.field-0-is)
    (c.fill_inputs.ensures.ends steps done (recorded core name steps done) olds filling) in
    mid_failed core c.requires.runnable name steps done olds c.fill_inputs.new.run c.record_half.new.run _ _ c.fill_inputs.ensures.core filled
    c.record_half.ensures.core c.record_half.ensures.queues c.record_half.ensures.moment
    (ends_known name (block_at (core_in c.fill_inputs.new.run) (next_half (core_in c.fill_inputs.new.run) (moment_of c.fill_inputs.new.run))) c.args.log _ _ _ (Err c.in-Err-record_half.failed) c.in-Err-record_half.is (ap (place_of name) c.fill_inputs.ensures.same_names ∙ place) c.record_half.ensures.ends)

pub returns-in-Ok-record_half-clause-ends : goal.returns-in-Ok-record_half-clause-ends
returns-in-Ok-record_half-clause-ends g c name steps done olds less place stands =
    let core = core_in c.args.run.now in
    let filling = first_fill core steps done (recorded core name steps done) olds _ c.args.run.now less stands in
    let filled = fills_as core steps done (recorded core name steps done) olds _ c.fill_inputs.new.run _ (Ok None) (c.in-Ok-None.is ∙ ap Ok c.in-Ok-None.field-0-is)
    (c.fill_inputs.ensures.ends steps done (recorded core name steps done) olds filling) in
    let there = ap (place_of name) c.fill_inputs.ensures.same_names ∙ place in
    end_noted core c.requires.runnable name steps done olds c.fill_inputs.new.run c.record_half.new.run _ _ c.fill_inputs.ensures.core filled
    c.record_half.ensures.core c.record_half.ensures.queues c.record_half.ensures.moment
    c.record_half-2.new.run _ (ends_known name (block_at (core_in c.fill_inputs.new.run) (next_half (core_in c.fill_inputs.new.run) (moment_of c.fill_inputs.new.run))) c.args.log _ _ _ (Ok tt) c.in-Ok.is there c.record_half.ensures.ends)
    c.record_half-2.ensures.core c.record_half-2.ensures.queues c.record_half-2.ensures.moment
    (ends_known name (block_at (core_in c.record_half.new.run) (next_half (core_in c.record_half.new.run) (moment_of c.record_half.new.run))) c.args.log _ _ _ (Ok tt) c.in-Ok-record_half.is (ap (place_of name) c.record_half.ensures.same_names ∙ there) c.record_half-2.ensures.ends)

pub returns-in-Err-record_half-2-clause-ends : goal.returns-in-Err-record_half-2-clause-ends
returns-in-Err-record_half-2-clause-ends g c name steps done olds less place stands =
    let core = core_in c.args.run.now in
    let filling = first_fill core steps done (recorded core name steps done) olds _ c.args.run.now less stands in
    let filled = fills_as core steps done (recorded core name steps done) olds _ c.fill_inputs.new.run _ (Ok None) (c.in-Ok-None.is ∙ ap Ok c.in-Ok-None.field-0-is)
    (c.fill_inputs.ensures.ends steps done (recorded core name steps done) olds filling) in
    let there = ap (place_of name) c.fill_inputs.ensures.same_names ∙ place in
    end_failed core c.requires.runnable name steps done olds c.fill_inputs.new.run c.record_half.new.run _ _ c.fill_inputs.ensures.core filled
    c.record_half.ensures.core c.record_half.ensures.queues c.record_half.ensures.moment
    c.record_half-2.new.run _ (ends_known name (block_at (core_in c.fill_inputs.new.run) (next_half (core_in c.fill_inputs.new.run) (moment_of c.fill_inputs.new.run))) c.args.log _ _ _ (Ok tt) c.in-Ok.is there c.record_half.ensures.ends)
    c.record_half-2.ensures.core c.record_half-2.ensures.queues c.record_half-2.ensures.moment
    (ends_known name (block_at (core_in c.record_half.new.run) (next_half (core_in c.record_half.new.run) (moment_of c.record_half.new.run))) c.args.log _ _ _ (Err c.in-Err-record_half-2.failed) c.in-Err-record_half-2.is (ap (place_of name) c.record_half.ensures.same_names ∙ there) c.record_half-2.ensures.ends)
