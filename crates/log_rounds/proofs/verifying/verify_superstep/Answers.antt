use Rattle.std.proofs.Common.{◌∙◌, ap, Ok, Err, None, Some}
use Rattle.hume_ports.specs.Ports.{place_of}
use Rattle.run_log.specs.Moments.{core_in}
use Rattle.log_rounds.specs.inner.Steps.{verified}
use Rattle.log_rounds.proofs.RecordSteps.{fills_as, first_fill}
use Rattle.log_rounds.proofs.Agreeing.{compares_known, end_agrees, end_failed, end_wrong, fill_fails, judged_bad, mid_failed, mid_wrong}
use Rattle.log_rounds.proofs.verifying.verify_superstep.Goals as goal

pub returns-in-Ok-Some-clause-ends : goal.returns-in-Ok-Some-clause-ends
returns-in-Ok-Some-clause-ends g c name steps done olds less small place stands =
    let core = core_in c.args.run.now in
    let filling = first_fill core steps done (verified core name steps done) olds _ c.args.run.now less stands in
    judged_bad core c.requires.runnable name (c.requires.own name place) steps done olds small _ c.fill_inputs.new.run c.in-Ok-Some.bad
    (fills_as core steps done (verified core name steps done) olds _ c.fill_inputs.new.run _ (Ok (Some c.in-Ok-Some.bad)) (c.in-Ok-Some.is ∙ ap Ok c.in-Ok-Some.field-0-is)
    (c.fill_inputs.ensures.ends steps done (verified core name steps done) olds filling))

pub returns-in-Err-clause-ends : goal.returns-in-Err-clause-ends
returns-in-Err-clause-ends g c name steps done olds less small place stands =
    let core = core_in c.args.run.now in
    let filling = first_fill core steps done (verified core name steps done) olds _ c.args.run.now less stands in
    fill_fails core c.requires.runnable name (c.requires.own name place) steps done olds _
    (fills_as core steps done (verified core name steps done) olds _ c.fill_inputs.new.run _ (Err c.in-Err.failed) c.in-Err.is
    (c.fill_inputs.ensures.ends steps done (verified core name steps done) olds filling))

pub returns-in-Ok-Some-verify_half-clause-ends : goal.returns-in-Ok-Some-verify_half-clause-ends
returns-in-Ok-Some-verify_half-clause-ends g c name steps done olds less small place stands =
    let core = core_in c.args.run.now in
    let filling = first_fill core steps done (verified core name steps done) olds _ c.args.run.now less stands in
    let filled = fills_as core steps done (verified core name steps done) olds _ c.fill_inputs.new.run _ (Ok None) (c.in-Ok-None.is ∙ ap Ok c.in-Ok-None.field-0-is)
    (c.fill_inputs.ensures.ends steps done (verified core name steps done) olds filling) in
    let there = ap (place_of name) c.fill_inputs.ensures.same_names ∙ place in
    mid_wrong core c.requires.runnable name (c.requires.own name place) steps done olds c.fill_inputs.new.run c.verify_half.new.run _ _
    c.fill_inputs.ensures.core filled c.verify_half.ensures.core c.verify_half.ensures.queues c.verify_half.ensures.moment (c.verify_half.ensures.untouched name there)
    c.in-Ok-Some-verify_half.fault
    (compares_known _ _ name c.args.log _ _ _ (Ok (Some c.in-Ok-Some-verify_half.fault)) (c.in-Ok-Some-verify_half.is ∙ ap Ok c.in-Ok-Some-verify_half.field-0-is) there
    c.verify_half.ensures.compares)

pub returns-in-Err-verify_half-clause-ends : goal.returns-in-Err-verify_half-clause-ends
returns-in-Err-verify_half-clause-ends g c name steps done olds less small place stands =
    let core = core_in c.args.run.now in
    let filling = first_fill core steps done (verified core name steps done) olds _ c.args.run.now less stands in
    let filled = fills_as core steps done (verified core name steps done) olds _ c.fill_inputs.new.run _ (Ok None) (c.in-Ok-None.is ∙ ap Ok c.in-Ok-None.field-0-is)
    (c.fill_inputs.ensures.ends steps done (verified core name steps done) olds filling) in
    let there = ap (place_of name) c.fill_inputs.ensures.same_names ∙ place in
    mid_failed core c.requires.runnable name (c.requires.own name place) steps done olds c.fill_inputs.new.run c.verify_half.new.run _ _
    c.fill_inputs.ensures.core filled c.verify_half.ensures.core c.verify_half.ensures.queues c.verify_half.ensures.moment (c.verify_half.ensures.untouched name there)
    c.in-Err-verify_half.failed
    (compares_known _ _ name c.args.log _ _ _ (Err c.in-Err-verify_half.failed) c.in-Err-verify_half.is there c.verify_half.ensures.compares)

pub returns-in-Ok-None-verify_half-2-clause-ends : goal.returns-in-Ok-None-verify_half-2-clause-ends
returns-in-Ok-None-verify_half-2-clause-ends g c name steps done olds less small place stands =
    let core = core_in c.args.run.now in
    let filling = first_fill core steps done (verified core name steps done) olds _ c.args.run.now less stands in
    let filled = fills_as core steps done (verified core name steps done) olds _ c.fill_inputs.new.run _ (Ok None) (c.in-Ok-None.is ∙ ap Ok c.in-Ok-None.field-0-is)
    (c.fill_inputs.ensures.ends steps done (verified core name steps done) olds filling) in
    let there = ap (place_of name) c.fill_inputs.ensures.same_names ∙ place in
    let next = ap (place_of name) c.verify_half.ensures.same_names ∙ there in
    end_agrees core c.requires.runnable name (c.requires.own name place) steps done olds c.fill_inputs.new.run c.verify_half.new.run _ _
    c.fill_inputs.ensures.core filled c.verify_half.ensures.core c.verify_half.ensures.queues c.verify_half.ensures.moment (c.verify_half.ensures.untouched name there)
    c.verify_half-2.new.run _ (compares_known _ _ name c.args.log _ _ _ (Ok None) (c.in-Ok-None-verify_half.is ∙ ap Ok c.in-Ok-None-verify_half.field-0-is) there c.verify_half.ensures.compares)
    c.verify_half-2.ensures.core c.verify_half-2.ensures.queues c.verify_half-2.ensures.moment (c.verify_half-2.ensures.untouched name next)
    (compares_known _ _ name c.args.log _ _ _ (Ok None) (c.in-Ok-None-verify_half-2.is ∙ ap Ok c.in-Ok-None-verify_half-2.field-0-is) next c.verify_half-2.ensures.compares)

pub returns-in-Ok-Some-verify_half-2-clause-ends : goal.returns-in-Ok-Some-verify_half-2-clause-ends
returns-in-Ok-Some-verify_half-2-clause-ends g c name steps done olds less small place stands =
    let core = core_in c.args.run.now in
    let filling = first_fill core steps done (verified core name steps done) olds _ c.args.run.now less stands in
    let filled = fills_as core steps done (verified core name steps done) olds _ c.fill_inputs.new.run _ (Ok None) (c.in-Ok-None.is ∙ ap Ok c.in-Ok-None.field-0-is)
    (c.fill_inputs.ensures.ends steps done (verified core name steps done) olds filling) in
    let there = ap (place_of name) c.fill_inputs.ensures.same_names ∙ place in
    let next = ap (place_of name) c.verify_half.ensures.same_names ∙ there in
    end_wrong core c.requires.runnable name (c.requires.own name place) steps done olds c.fill_inputs.new.run c.verify_half.new.run _ _
    c.fill_inputs.ensures.core filled c.verify_half.ensures.core c.verify_half.ensures.queues c.verify_half.ensures.moment (c.verify_half.ensures.untouched name there)
    c.verify_half-2.new.run _ (compares_known _ _ name c.args.log _ _ _ (Ok None) (c.in-Ok-None-verify_half.is ∙ ap Ok c.in-Ok-None-verify_half.field-0-is) there c.verify_half.ensures.compares)
    c.verify_half-2.ensures.core c.verify_half-2.ensures.queues c.verify_half-2.ensures.moment (c.verify_half-2.ensures.untouched name next)
    c.in-Ok-Some-verify_half-2.fault
    (compares_known _ _ name c.args.log _ _ _ (Ok (Some c.in-Ok-Some-verify_half-2.fault)) (c.in-Ok-Some-verify_half-2.is ∙ ap Ok c.in-Ok-Some-verify_half-2.field-0-is) next
    c.verify_half-2.ensures.compares)

pub returns-in-Err-verify_half-2-clause-ends : goal.returns-in-Err-verify_half-2-clause-ends
returns-in-Err-verify_half-2-clause-ends g c name steps done olds less small place stands =
    let core = core_in c.args.run.now in
    let filling = first_fill core steps done (verified core name steps done) olds _ c.args.run.now less stands in
    let filled = fills_as core steps done (verified core name steps done) olds _ c.fill_inputs.new.run _ (Ok None) (c.in-Ok-None.is ∙ ap Ok c.in-Ok-None.field-0-is)
    (c.fill_inputs.ensures.ends steps done (verified core name steps done) olds filling) in
    let there = ap (place_of name) c.fill_inputs.ensures.same_names ∙ place in
    let next = ap (place_of name) c.verify_half.ensures.same_names ∙ there in
    end_failed core c.requires.runnable name (c.requires.own name place) steps done olds c.fill_inputs.new.run c.verify_half.new.run _ _
    c.fill_inputs.ensures.core filled c.verify_half.ensures.core c.verify_half.ensures.queues c.verify_half.ensures.moment (c.verify_half.ensures.untouched name there)
    c.verify_half-2.new.run _ (compares_known _ _ name c.args.log _ _ _ (Ok None) (c.in-Ok-None-verify_half.is ∙ ap Ok c.in-Ok-None-verify_half.field-0-is) there c.verify_half.ensures.compares)
    c.verify_half-2.ensures.core c.verify_half-2.ensures.queues c.verify_half-2.ensures.moment (c.verify_half-2.ensures.untouched name next)
    c.in-Err-verify_half-2.failed
    (compares_known _ _ name c.args.log _ _ _ (Err c.in-Err-verify_half-2.failed) c.in-Err-verify_half-2.is next c.verify_half-2.ensures.compares)
