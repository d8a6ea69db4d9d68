use Rattle.std.proofs.Common.{◌∙◌, ap, arith, Ok, Err, None, Some}
use Rattle.hume_ports.specs.Ports.{place_of}
use Rattle.phase_workers.specs.Engines.{core_of}
use Rattle.run_log.specs.Moments.{Moment, block_at, core_in, moment_of}
use Rattle.log_rounds.proofs.RecordSteps.{ends_known}
use Rattle.log_rounds.proofs.RecordEnds.{all_recorded, bad_told, bad_untold, line_known, supersteps_from}
use Rattle.log_rounds.proofs.Starting.{start_failed, start_noted}
use Rattle.log_rounds.proofs.logged_run.LoggedRun.record.Goals as goal

pub returns-in-Err-clause-ends : goal.returns-in-Err-clause-ends
returns-in-Err-clause-ends g c name place =
    start_failed (core_in c.args.self.now.run) name c.args.steps _ c.args.self.now.run c.requires.fresh c.requires.runnable _
    (ends_known name (block_at (core_in c.args.self.now.run) (moment_of c.args.self.now.run)) c.args.log _ _ _ (Err c.in-Err.failed) c.in-Err.is place c.write.ensures.ends)

pub record_supersteps-requires-clause-whole : goal.record_supersteps-requires-clause-whole
record_supersteps-requires-clause-whole g c =
    ap (λ (m : Moment). m.half) (c.write.ensures.moment ∙ c.requires.fresh.moment)

pub record_supersteps-requires-clause-first : goal.record_supersteps-requires-clause-first
record_supersteps-requires-clause-first g c =
    ap (λ (m : Moment). m.superstep) (c.write.ensures.moment ∙ c.requires.fresh.moment)

pub returns-in-Ok-None-clause-ends : goal.returns-in-Ok-None-clause-ends
returns-in-Ok-None-clause-ends g c name place =
    let core = core_in c.args.self.now.run in
    let there = ap (place_of name) c.write.ensures.same_names ∙ place in
    let begun = start_noted core name c.args.steps _ c.args.self.now.run c.requires.fresh c.requires.runnable _ c.write.new.self c.write.ensures.engine c.write.ensures.moment
    (ends_known name (block_at (core_in c.args.self.now.run) (moment_of c.args.self.now.run)) c.args.log _ _ _ (Ok tt) c.in-Ok.is place c.write.ensures.ends) in
    all_recorded core c.requires.runnable name c.args.steps _ _ c.record_supersteps.new.run
    (supersteps_from core _ name c.args.steps _ _ _ c.write.new.self c.record_supersteps.new.run _ (Ok None) (ap core_of c.write.ensures.engine)
    (c.in-Ok-None.is ∙ ap Ok c.in-Ok-None.field-0-is) (λ stands. c.record_supersteps.ensures.ends name _ there stands) begun)

pub returns-in-Ok-tell_bad_line-clause-ends : goal.returns-in-Ok-tell_bad_line-clause-ends
returns-in-Ok-tell_bad_line-clause-ends g c name place =
    let core = core_in c.args.self.now.run in
    let there = ap (place_of name) c.write.ensures.same_names ∙ place in
    let begun = start_noted core name c.args.steps _ c.args.self.now.run c.requires.fresh c.requires.runnable _ c.write.new.self c.write.ensures.engine c.write.ensures.moment
    (ends_known name (block_at (core_in c.args.self.now.run) (moment_of c.args.self.now.run)) c.args.log _ _ _ (Ok tt) c.in-Ok.is place c.write.ensures.ends) in
    bad_told core c.requires.runnable name c.args.steps _ _ c.record_supersteps.new.run (omega (arith, c.requires.steps)) c.in-Ok-Some.bad
    (supersteps_from core _ name c.args.steps _ _ _ c.write.new.self c.record_supersteps.new.run _ (Ok (Some c.in-Ok-Some.bad)) (ap core_of c.write.ensures.engine)
    (c.in-Ok-Some.is ∙ ap Ok c.in-Ok-Some.field-0-is) (λ stands. c.record_supersteps.ensures.ends name _ there stands) begun) _
    (line_known core _ c.in-Ok-Some.bad _ _ _ (Ok tt) (c.core.ensures ∙ c.record_supersteps.ensures.core ∙ ap core_of c.write.ensures.engine) c.in-Ok-tell_bad_line.is
    c.tell_bad_line.ensures.ends)

pub returns-in-Err-tell_bad_line-clause-ends : goal.returns-in-Err-tell_bad_line-clause-ends
returns-in-Err-tell_bad_line-clause-ends g c name place =
    let core = core_in c.args.self.now.run in
    let there = ap (place_of name) c.write.ensures.same_names ∙ place in
    let begun = start_noted core name c.args.steps _ c.args.self.now.run c.requires.fresh c.requires.runnable _ c.write.new.self c.write.ensures.engine c.write.ensures.moment
    (ends_known name (block_at (core_in c.args.self.now.run) (moment_of c.args.self.now.run)) c.args.log _ _ _ (Ok tt) c.in-Ok.is place c.write.ensures.ends) in
    bad_untold core c.requires.runnable name c.args.steps _ _ c.record_supersteps.new.run (omega (arith, c.requires.steps)) c.in-Ok-Some.bad
    (supersteps_from core _ name c.args.steps _ _ _ c.write.new.self c.record_supersteps.new.run _ (Ok (Some c.in-Ok-Some.bad)) (ap core_of c.write.ensures.engine)
    (c.in-Ok-Some.is ∙ ap Ok c.in-Ok-Some.field-0-is) (λ stands. c.record_supersteps.ensures.ends name _ there stands) begun) _
    (line_known core _ c.in-Ok-Some.bad _ _ _ (Err c.in-Err-tell_bad_line.failed) (c.core.ensures ∙ c.record_supersteps.ensures.core ∙ ap core_of c.write.ensures.engine)
    c.in-Err-tell_bad_line.is c.tell_bad_line.ensures.ends)

pub returns-in-Err-record_supersteps-clause-ends : goal.returns-in-Err-record_supersteps-clause-ends
returns-in-Err-record_supersteps-clause-ends g c name place =
    let core = core_in c.args.self.now.run in
    let there = ap (place_of name) c.write.ensures.same_names ∙ place in
    let begun = start_noted core name c.args.steps _ c.args.self.now.run c.requires.fresh c.requires.runnable _ c.write.new.self c.write.ensures.engine c.write.ensures.moment
    (ends_known name (block_at (core_in c.args.self.now.run) (moment_of c.args.self.now.run)) c.args.log _ _ _ (Ok tt) c.in-Ok.is place c.write.ensures.ends) in
    supersteps_from core _ name c.args.steps _ _ _ c.write.new.self c.record_supersteps.new.run _ (Err c.in-Err-record_supersteps.failed) (ap core_of c.write.ensures.engine)
    c.in-Err-record_supersteps.is (λ stands. c.record_supersteps.ensures.ends name _ there stands) begun
