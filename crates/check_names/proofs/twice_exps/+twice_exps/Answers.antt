use Rattle.std.proofs.Common.{ap, sym, ◌∙◌}
use Rattle.check_names.specs.Twice.{exp_binds_twice}
use Rattle.check_names.proofs.CaseSteps.{case_twice}
use Rattle.check_names.proofs.twice_exps.+twice_exps.Goals as goal

pub exp_binds_twice-returns-in_ok-yes-in-Case : goal.exp_binds_twice-returns-in_ok-yes-in-Case
exp_binds_twice-returns-in_ok-yes-in-Case t c =
    c.in_ok-yes-in-Case.ensures ∙ sym (case_twice c.in-Case.subject c.in-Case.alternatives) ∙ ap exp_binds_twice (sym c.in-Case.is)
