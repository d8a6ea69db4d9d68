use Rattle.std.proofs.Common.{ℕ}
use Rattle.std.specs.Prelude.{None, Some, OnOk, IfOk, IfErr}
use Rattle.std.proofs.lemmas.Result.{IfOk-weaker}
use Rattle.hume_base.specs.Least.{IsLeast}
use Rattle.hume_ast.specs.declared.tree.Decl.{Decl}
use Rattle.check_typing.specs.Declarations.{InPlaces, HasTrees}
use Rattle.check_declarations.specs.Mistyped.{IsMistyped}
use Rattle.check_declarations.specs.inner.Verdicts.{AreVerdicts}
use Rattle.check_declarations.proofs.MistypedLaws.{fine_where_trees, trees_have, least_is_mistyped}
use Rattle.check_declarations.proofs.first.typed_declarations.Goals as goal

pub returns-clause-fine : goal.returns-clause-fine
returns-clause-fine c =
    let decls = c.args.decls.now in
    let s = c.args.signatures.now in
    IfOk-weaker c.verdicts.result (AreVerdicts s decls) (λ found. OnOk found (IsLeast (IsMistyped decls) None))
    (fine_where_trees decls s c.requires.are (λ t is. c.signatures_are_unique.ensures decls t s is c.requires.are)
    (c.declaration_walk_is_typing.ensures.typed s) (c.declaration_walk_is_typing.ensures.untyped s)) c.verdicts.ensures

pub returns-clause-trees : goal.returns-clause-trees
returns-clause-trees c =
    let decls = c.args.decls.now in
    let s = c.args.signatures.now in
    IfOk-weaker c.verdicts.result (AreVerdicts s decls) (λ found. IfOk found (λ trees. InPlaces (λ (d : ℕ × Decl) t. HasTrees s d.1 t) decls trees))
    (trees_have decls s c.requires.are (λ t is. c.signatures_are_unique.ensures decls t s is c.requires.are)
    (c.declaration_walk_is_typing.ensures.typed s) (c.declaration_walk_is_typing.ensures.untyped s)) c.verdicts.ensures

pub returns-clause-mistyped : goal.returns-clause-mistyped
returns-clause-mistyped c =
    let decls = c.args.decls.now in
    let s = c.args.signatures.now in
    IfOk-weaker c.verdicts.result (AreVerdicts s decls) (λ found. IfErr found (λ f. IsLeast (IsMistyped decls) (Some f)))
    (least_is_mistyped decls s c.requires.are (λ t is. c.signatures_are_unique.ensures decls t s is c.requires.are)
    (c.declaration_walk_is_typing.ensures.typed s) (c.declaration_walk_is_typing.ensures.untyped s)) c.verdicts.ensures
