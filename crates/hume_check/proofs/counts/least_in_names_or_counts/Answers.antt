use Rattle.std.proofs.Common.{subst}
use Rattle.std.proofs.lemmas.Result.{IfOk-weaker}
use Rattle.hume_base.specs.Least.{IsLeast}
use Rattle.check_names.specs.Misnamed.{BreaksNames}
use Rattle.check_rules.specs.CheckRules.{BreaksCounts}
use Rattle.hume_check.proofs.Phases.{Early, least_early, least_early_later}
use Rattle.hume_check.proofs.counts.least_in_names_or_counts.Goals as goal

pub returns-in-Some : goal.returns-in-Some
returns-in-Some c =
    let decls = c.args.program.now.decls in
    least_early decls c.in-Some.finding (subst (IsLeast (BreaksNames decls)) c.in-Some.is c.in_ok-finding.ensures)

pub returns-in-None : goal.returns-in-None
returns-in-None c =
    let decls = c.args.program.now.decls in
    let none = subst (IsLeast (BreaksNames decls)) c.in-None.is c.in_ok-finding.ensures in
    IfOk-weaker c.least_in_counts.result (IsLeast (BreaksCounts decls)) (IsLeast (Early decls)) (λ o p. least_early_later decls o none p) c.least_in_counts.ensures
