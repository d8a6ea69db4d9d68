use Rattle.std.proofs.Common.{◌∙◌, ap, Ok, Err, None, Some, true, false}
use Rattle.hume_ports.specs.Ports.{place_of}
use Rattle.phase_workers.specs.Engines.{core_of}
use Rattle.run_log.specs.Moments.{core_in, Moment}
use Rattle.log_rounds.specs.Outcomes.{surplus}
use Rattle.log_rounds.proofs.Judging.{asked, end_fails, end_held, end_longer, start_agrees, start_fails, start_wrong, supersteps_from}
use Rattle.log_rounds.proofs.Agreeing.{compares_known}
use Rattle.log_rounds.proofs.verifying.judge.Goals as goal

pub returns-in-Ok-Some-clause-ends : goal.returns-in-Ok-Some-clause-ends
returns-in-Ok-Some-clause-ends g c name place =
    start_wrong (core_in c.args.run.now) c.requires.runnable name (c.requires.own name place) c.args.steps _ _ c.args.run.now c.requires.fresh
    (c.compare.ensures.untouched name place) c.in-Ok-Some.fault
    (compares_known _ _ name c.args.log _ _ _ (Ok (Some c.in-Ok-Some.fault)) (c.in-Ok-Some.is ∙ ap Ok c.in-Ok-Some.field-0-is) place c.compare.ensures.compares)

pub returns-in-Err-clause-ends : goal.returns-in-Err-clause-ends
returns-in-Err-clause-ends g c name place =
    start_fails (core_in c.args.run.now) c.requires.runnable name (c.requires.own name place) c.args.steps _ _ c.args.run.now c.requires.fresh
    (c.compare.ensures.untouched name place) c.in-Err.failed
    (compares_known _ _ name c.args.log _ _ _ (Err c.in-Err.failed) c.in-Err.is place c.compare.ensures.compares)

pub verify_supersteps-requires-clause-whole : goal.verify_supersteps-requires-clause-whole
verify_supersteps-requires-clause-whole g c = ap (λ (m : Moment). m.half) (c.compare.ensures.moment ∙ c.requires.fresh.moment)

pub verify_supersteps-requires-clause-first : goal.verify_supersteps-requires-clause-first
verify_supersteps-requires-clause-first g c = ap (λ (m : Moment). m.superstep) (c.compare.ensures.moment ∙ c.requires.fresh.moment)

pub returns-in-Ok-Some-verify_supersteps-clause-ends : goal.returns-in-Ok-Some-verify_supersteps-clause-ends
returns-in-Ok-Some-verify_supersteps-clause-ends g c name place =
    let core = core_in c.args.run.now in
    let there = ap (place_of name) c.compare.ensures.same_names ∙ place in
    let begun = start_agrees core c.requires.runnable name (c.requires.own name place) c.args.steps _ _ c.args.run.now c.requires.fresh (c.compare.ensures.untouched name place)
    c.compare.new.self c.compare.ensures.engine c.compare.ensures.moment
    (compares_known _ _ name c.args.log _ _ _ (Ok None) (c.in-Ok-None.is ∙ ap Ok c.in-Ok-None.field-0-is) place c.compare.ensures.compares) in
    supersteps_from core _ name c.args.steps _ _ _ c.compare.new.self c.verify_supersteps.new.run _ (Ok (Some c.in-Ok-Some-verify_supersteps.stop)) (ap core_of c.compare.ensures.engine)
    (c.in-Ok-Some-verify_supersteps.is ∙ ap Ok c.in-Ok-Some-verify_supersteps.field-0-is) (λ stands. c.verify_supersteps.ensures.ends name _ there stands) begun

pub returns-in-Err-verify_supersteps-clause-ends : goal.returns-in-Err-verify_supersteps-clause-ends
returns-in-Err-verify_supersteps-clause-ends g c name place =
    let core = core_in c.args.run.now in
    let there = ap (place_of name) c.compare.ensures.same_names ∙ place in
    let begun = start_agrees core c.requires.runnable name (c.requires.own name place) c.args.steps _ _ c.args.run.now c.requires.fresh (c.compare.ensures.untouched name place)
    c.compare.new.self c.compare.ensures.engine c.compare.ensures.moment
    (compares_known _ _ name c.args.log _ _ _ (Ok None) (c.in-Ok-None.is ∙ ap Ok c.in-Ok-None.field-0-is) place c.compare.ensures.compares) in
    supersteps_from core _ name c.args.steps _ _ _ c.compare.new.self c.verify_supersteps.new.run _ (Err c.in-Err-verify_supersteps.failed) (ap core_of c.compare.ensures.engine)
    (c.in-Err-verify_supersteps.is) (λ stands. c.verify_supersteps.ensures.ends name _ there stands) begun

pub returns-in-Ok-true-clause-ends : goal.returns-in-Ok-true-clause-ends
returns-in-Ok-true-clause-ends g c name place =
    let core = core_in c.args.run.now in
    let there = ap (place_of name) c.compare.ensures.same_names ∙ place in
    let begun = start_agrees core c.requires.runnable name (c.requires.own name place) c.args.steps _ _ c.args.run.now c.requires.fresh (c.compare.ensures.untouched name place)
    c.compare.new.self c.compare.ensures.engine c.compare.ensures.moment
    (compares_known _ _ name c.args.log _ _ _ (Ok None) (c.in-Ok-None.is ∙ ap Ok c.in-Ok-None.field-0-is) place c.compare.ensures.compares) in
    let stands = supersteps_from core _ name c.args.steps _ _ _ c.compare.new.self c.verify_supersteps.new.run _ (Ok None) (ap core_of c.compare.ensures.engine)
    (c.in-Ok-None-verify_supersteps.is ∙ ap Ok c.in-Ok-None-verify_supersteps.field-0-is) (λ stands. c.verify_supersteps.ensures.ends name _ there stands) begun in
    let last = ap (place_of name) c.verify_supersteps.ensures.same_names ∙ there in
    end_held core c.requires.runnable name (c.requires.own name place) c.args.steps _ _ _ c.verify_supersteps.new.run stands (c.at_end.ensures.untouched name last)
    (asked name c.args.log _ _ _ (Ok true) (c.in-Ok-true.is ∙ ap Ok c.in-Ok-true.field-0-test) last c.at_end.ensures.asks)

pub returns-in-Ok-false-clause-ends : goal.returns-in-Ok-false-clause-ends
returns-in-Ok-false-clause-ends g c name place =
    let core = core_in c.args.run.now in
    let there = ap (place_of name) c.compare.ensures.same_names ∙ place in
    let begun = start_agrees core c.requires.runnable name (c.requires.own name place) c.args.steps _ _ c.args.run.now c.requires.fresh (c.compare.ensures.untouched name place)
    c.compare.new.self c.compare.ensures.engine c.compare.ensures.moment
    (compares_known _ _ name c.args.log _ _ _ (Ok None) (c.in-Ok-None.is ∙ ap Ok c.in-Ok-None.field-0-is) place c.compare.ensures.compares) in
    let stands = supersteps_from core _ name c.args.steps _ _ _ c.compare.new.self c.verify_supersteps.new.run _ (Ok None) (ap core_of c.compare.ensures.engine)
    (c.in-Ok-None-verify_supersteps.is ∙ ap Ok c.in-Ok-None-verify_supersteps.field-0-is) (λ stands. c.verify_supersteps.ensures.ends name _ there stands) begun in
    let last = ap (place_of name) c.verify_supersteps.ensures.same_names ∙ there in
    end_longer core c.requires.runnable name (c.requires.own name place) c.args.steps _ _ _ c.verify_supersteps.new.run stands (c.at_end.ensures.untouched name last)
    _ (c.surplus.ensures ∙ ap (λ its. surplus its c.args.steps) (c.core.ensures ∙ c.verify_supersteps.ensures.core ∙ ap core_of c.compare.ensures.engine))
    (asked name c.args.log _ _ _ (Ok false) (c.in-Ok-false.is ∙ ap Ok c.in-Ok-false.field-0-test) last c.at_end.ensures.asks)

pub returns-in-Err-at_end-clause-ends : goal.returns-in-Err-at_end-clause-ends
returns-in-Err-at_end-clause-ends g c name place =
    let core = core_in c.args.run.now in
    let there = ap (place_of name) c.compare.ensures.same_names ∙ place in
    let begun = start_agrees core c.requires.runnable name (c.requires.own name place) c.args.steps _ _ c.args.run.now c.requires.fresh (c.compare.ensures.untouched name place)
    c.compare.new.self c.compare.ensures.engine c.compare.ensures.moment
    (compares_known _ _ name c.args.log _ _ _ (Ok None) (c.in-Ok-None.is ∙ ap Ok c.in-Ok-None.field-0-is) place c.compare.ensures.compares) in
    let stands = supersteps_from core _ name c.args.steps _ _ _ c.compare.new.self c.verify_supersteps.new.run _ (Ok None) (ap core_of c.compare.ensures.engine)
    (c.in-Ok-None-verify_supersteps.is ∙ ap Ok c.in-Ok-None-verify_supersteps.field-0-is) (λ stands. c.verify_supersteps.ensures.ends name _ there stands) begun in
    let last = ap (place_of name) c.verify_supersteps.ensures.same_names ∙ there in
    end_fails core c.requires.runnable name (c.requires.own name place) c.args.steps _ _ _ c.verify_supersteps.new.run stands (c.at_end.ensures.untouched name last)
    c.in-Err-at_end.failed (asked name c.args.log _ _ _ (Err c.in-Err-at_end.failed) c.in-Err-at_end.is last c.at_end.ensures.asks)
