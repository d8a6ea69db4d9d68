use Rattle.std.proofs.Common.{subst}
use Rattle.hume_base.specs.Least.{IsLeast}
use Rattle.hume_check.proofs.Phases.{Early, least_in_early}
use Rattle.hume_check.proofs.checking.check_typed.Goals as goal

pub refused-requires : goal.refused-requires
refused-requires c =
    let decls = c.args.program.now.decls in
    least_in_early decls c.in-Some.finding (subst (IsLeast (Early decls)) c.in-Some.is c.in_ok-finding.ensures)
