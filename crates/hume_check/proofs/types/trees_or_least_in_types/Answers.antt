use Rattle.std.proofs.Common.{Some, None, IfOk, IfErr, OnOk, sym, subst}
use Rattle.hume_base.specs.Least.{IsLeast}
use Rattle.check_rules.specs.CheckRules.{BreaksTypes}
use Rattle.check_declarations.specs.Mistyped.{IsMistyped}
use Rattle.hume_check.specs.inner.Trees.{HaveTrees, HaveTreesOr}
use Rattle.hume_check.proofs.TreesOr.{typed_trees, mistyped_least}
use Rattle.hume_check.proofs.types.trees_or_least_in_types.Goals as goal

pub returns-in-Ok : goal.returns-in-Ok
returns-in-Ok c =
    let s = c.args.table.now in
    let decls = c.args.decls.now in
    let fine = subst (λ found. OnOk found (IsLeast (IsMistyped decls) None)) c.in-Ok.is c.in_ok-trees.ensures.fine in
    let have = subst (λ found. IfOk found (HaveTrees c.signatures.result.now decls)) c.in-Ok.is c.in_ok-trees.ensures.trees in
    subst (HaveTreesOr (BreaksTypes decls) s decls) (sym c.trees_unless.ensures)
    (typed_trees s decls c.in_ok-without_value.without_value c.in-Ok.trees fine c.in_ok-without_value.ensures
    (subst (λ s. HaveTrees s decls c.in-Ok.trees) c.signatures.ensures have))

pub returns-in-Err : goal.returns-in-Err
returns-in-Err c =
    let decls = c.args.decls.now in
    mistyped_least c.args.table.now decls c.in-Err.mistyped c.earlier_than.result c.in_ok-without_value.without_value
    (subst (λ found. IfErr found (λ f. IsLeast (IsMistyped decls) (Some f))) c.in-Err.is c.in_ok-trees.ensures.mistyped)
    c.in_ok-without_value.ensures c.earlier_than.ensures
