use Rattle.std.proofs.Common.{◌∙◌, Ok, Err}
use Rattle.run_log.specs.Moments.{core_in}
use Rattle.log_rounds.proofs.Judging.{judge_failed, judged_known, stop_told, stop_untold, told_known}
use Rattle.log_rounds.proofs.logged_run.LoggedRun.verify.Goals as goal

pub returns-in-Err-clause-ends : goal.returns-in-Err-clause-ends
returns-in-Err-clause-ends g c name place =
    judge_failed (core_in c.args.self.now.run) name c.args.steps _ _
    (judged_known (core_in c.args.self.now.run) name c.args.steps _ _ _ (Err c.in-Err.failed) c.in-Err.is (c.judge.ensures.ends name place))

pub returns-in-Ok-tell_stop-clause-ends : goal.returns-in-Ok-tell_stop-clause-ends
returns-in-Ok-tell_stop-clause-ends g c name place =
    let core = core_in c.args.self.now.run in
    stop_told core name c.args.steps _ _ _ c.in-Ok.stop
    (judged_known core name c.args.steps _ _ _ (Ok c.in-Ok.stop) c.in-Ok.is (c.judge.ensures.ends name place)) _ c.verdict_of.ensures
    (told_known core _ c.in-Ok.stop _ _ _ (Ok tt) (c.core.ensures ∙ c.judge.ensures.core) c.in-Ok-tell_stop.is c.tell_stop.ensures.ends)

pub returns-in-Err-tell_stop-clause-ends : goal.returns-in-Err-tell_stop-clause-ends
returns-in-Err-tell_stop-clause-ends g c name place =
    let core = core_in c.args.self.now.run in
    stop_untold core name c.args.steps _ _ _ c.in-Ok.stop
    (judged_known core name c.args.steps _ _ _ (Ok c.in-Ok.stop) c.in-Ok.is (c.judge.ensures.ends name place))
    (told_known core _ c.in-Ok.stop _ _ _ (Err c.in-Err-tell_stop.failed) (c.core.ensures ∙ c.judge.ensures.core) c.in-Err-tell_stop.is c.tell_stop.ensures.ends)
