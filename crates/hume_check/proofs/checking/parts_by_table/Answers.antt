use Rattle.std.proofs.Common.{Some, None, subst}
use Rattle.hume_check.specs.inner.Trees.{HaveTreesOr}
use Rattle.hume_check.proofs.Phases.{Late, least_in_late}
use Rattle.hume_check.proofs.checking.parts_by_table.Goals as goal

pub typed_parts-requires-clause-fine : goal.typed_parts-requires-clause-fine
typed_parts-requires-clause-fine c =
    let decls = c.args.program.now.decls in
    let found = subst (HaveTreesOr (Late decls) c.args.table.now decls) c.in-Ok.is c.in_ok-trees.ensures in
    least_in_late decls None c.requires.named found.0

pub returns-in_ok-typed_parts-in-Ok-clause-fine : goal.returns-in_ok-typed_parts-in-Ok-clause-fine
returns-in_ok-typed_parts-in-Ok-clause-fine c =
    let decls = c.args.program.now.decls in
    let found = subst (HaveTreesOr (Late decls) c.args.table.now decls) c.in-Ok.is c.in_ok-trees.ensures in
    least_in_late decls None c.requires.named found.0

pub refused-requires : goal.refused-requires
refused-requires c =
    let decls = c.args.program.now.decls in
    least_in_late decls (Some c.in-Err.finding) c.requires.named
    (subst (HaveTreesOr (Late decls) c.args.table.now decls) c.in-Err.is c.in_ok-trees.ensures)
