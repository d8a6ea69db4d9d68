use Rattle.std.proofs.Common.{◌∙◌, ap, Ok, Some, None}
use Rattle.phase_workers.specs.Engines.{core_of}
use Rattle.run_rounds.proofs.Reports.{as_failed, as_made, line_as, line_failed, peaks_as, peaks_failed, rounds_failed, run_halted, run_over}
use Rattle.run_rounds.proofs.run.Running.run.Goals as goal

pub returns-in-Ok-clause-ends : goal.returns-in-Ok-clause-ends
returns-in-Ok-clause-ends g c =
    let core = core_of c.args.self.now.engine in
    run_over core c.args.self.now.traced c.args.steps _ _ _ c.make_rounds.new.self.engine c.make_rounds.ensures.core _
    (as_made core c.args.self.now.traced c.args.steps _ _ c.make_rounds.new.self.engine _ None (c.in-Ok-None.is ∙ ap Ok c.in-Ok-None.field-0-is) c.make_rounds.ensures.ends)
    (peaks_as core _ c.make_rounds.new.self.engine _ _ _ c.make_rounds.ensures.core c.tell_peaks.ensures.ends) c.in-Ok.is

pub returns-in-Err-tell_peaks-clause-ends : goal.returns-in-Err-tell_peaks-clause-ends
returns-in-Err-tell_peaks-clause-ends g c =
    let core = core_of c.args.self.now.engine in
    peaks_failed core c.args.self.now.traced c.args.steps _ _ _ c.make_rounds.new.self.engine c.make_rounds.ensures.core _
    (as_made core c.args.self.now.traced c.args.steps _ _ c.make_rounds.new.self.engine _ None (c.in-Ok-None.is ∙ ap Ok c.in-Ok-None.field-0-is) c.make_rounds.ensures.ends)
    (peaks_as core _ c.make_rounds.new.self.engine _ _ _ c.make_rounds.ensures.core c.tell_peaks.ensures.ends) c.in-Err-tell_peaks.failed c.in-Err-tell_peaks.is

pub returns-in-Ok-tell_bad_line-clause-ends : goal.returns-in-Ok-tell_bad_line-clause-ends
returns-in-Ok-tell_bad_line-clause-ends g c =
    let core = core_of c.args.self.now.engine in
    run_halted core c.args.self.now.traced c.args.steps _ _ _ c.make_rounds.new.self.engine c.make_rounds.ensures.core _ c.in-Ok-Some.bad
    (as_made core c.args.self.now.traced c.args.steps _ _ c.make_rounds.new.self.engine _ (Some c.in-Ok-Some.bad) (c.in-Ok-Some.is ∙ ap Ok c.in-Ok-Some.field-0-is)
    c.make_rounds.ensures.ends)
    (line_as core _ c.in-Ok-Some.bad _ _ _ c.make_rounds.ensures.core c.tell_bad_line.ensures.ends) c.in-Ok-tell_bad_line.is

pub returns-in-Err-tell_bad_line-clause-ends : goal.returns-in-Err-tell_bad_line-clause-ends
returns-in-Err-tell_bad_line-clause-ends g c =
    let core = core_of c.args.self.now.engine in
    line_failed core c.args.self.now.traced c.args.steps _ _ _ c.make_rounds.new.self.engine c.make_rounds.ensures.core _ c.in-Ok-Some.bad
    (as_made core c.args.self.now.traced c.args.steps _ _ c.make_rounds.new.self.engine _ (Some c.in-Ok-Some.bad) (c.in-Ok-Some.is ∙ ap Ok c.in-Ok-Some.field-0-is)
    c.make_rounds.ensures.ends)
    (line_as core _ c.in-Ok-Some.bad _ _ _ c.make_rounds.ensures.core c.tell_bad_line.ensures.ends) c.in-Err-tell_bad_line.failed c.in-Err-tell_bad_line.is

pub returns-in-Err-clause-ends : goal.returns-in-Err-clause-ends
returns-in-Err-clause-ends g c =
    let core = core_of c.args.self.now.engine in
    rounds_failed core c.args.self.now.traced c.args.steps _ _
    (as_failed core c.args.self.now.traced c.args.steps _ _ c.make_rounds.new.self.engine _ c.in-Err.failed c.in-Err.is c.make_rounds.ensures.ends)
