use Rattle.std.proofs.Common.{sym, subst}
use Rattle.check_rules.specs.CheckRules.{BreaksTypes}
use Rattle.hume_check.specs.inner.Trees.{HaveTreesOr}
use Rattle.hume_check.proofs.Phases.{Late, least_late}
use Rattle.hume_check.proofs.TreesOr.{limited_trees}
use Rattle.hume_check.proofs.limits.trees_or_least.Goals as goal

pub returns-in_ok-least_in_limits-in-Ok : goal.returns-in_ok-least_in_limits-in-Ok
returns-in_ok-least_in_limits-in-Ok c =
    let s = c.args.table.now in
    let decls = c.args.program.now.decls in
    let found = subst (λ d. HaveTreesOr (BreaksTypes d) s d c.in_ok-trees.field-0) c.as_slice.ensures c.in_ok-trees.ensures in
    let typed = subst (HaveTreesOr (BreaksTypes decls) s decls) c.in-Ok.is found in
    subst (HaveTreesOr (Late decls) s decls) (sym c.trees_unless.ensures)
    (limited_trees s decls c.in_ok-least_in_limits-in-Ok.field-0 c.in-Ok.trees c.in_ok-least_in_limits-in-Ok.ensures typed.0 typed.1)

pub returns-in-Err : goal.returns-in-Err
returns-in-Err c =
    let s = c.args.table.now in
    let decls = c.args.program.now.decls in
    let found = subst (λ d. HaveTreesOr (BreaksTypes d) s d c.in_ok-trees.field-0) c.as_slice.ensures c.in_ok-trees.ensures in
    least_late decls c.in-Err.finding (subst (HaveTreesOr (BreaksTypes decls) s decls) c.in-Err.is found)
