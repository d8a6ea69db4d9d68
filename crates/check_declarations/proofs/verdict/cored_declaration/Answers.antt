use Rattle.std.proofs.Common.{sym, ap, ◌∙◌}
use Rattle.std.proofs.lemmas.Result.{err_from_is_err_and}
use Rattle.hume_ast.specs.declared.tree.Decl.TheVariants.{Fun}
use Rattle.check_typing.specs.inner.DeclarationWalk.{declaration_walk}
use Rattle.check_tasks.specs.results.ResultStates.{ResultState}
use Rattle.check_declarations.proofs.VerdictLaws.{function_cored, function_untyped}
use Rattle.check_declarations.proofs.verdict.cored_declaration.Goals as goal

pub returns-in_err-cores-in-Fun-clause-none : goal.returns-in_err-cores-in-Fun-clause-none
returns-in_err-cores-in-Fun-clause-none c =
    let p = err_from_is_err_and c.from_residual.result c.from_residual.ensures.1 in
    let types = c.as_slice.result.now in
    let equations = c.as_slice-in-Fun.result.now in
    let signatures = ap (λ (s : ResultState). s.0.0.2) c.at.view_is in
    let found = ap (declaration_walk c.args.at.now.0.0.2) c.in-Fun.is
    ∙ (λ i. declaration_walk (sym signatures i) (Fun c.in-Fun.field-0 (sym c.as_slice.ensures i) (sym c.as_slice-in-Fun.ensures i))) in
    rw (p.1, p.2) (λ t. found ∙ function_untyped _ c.in-Fun.field-0 types equations (c.in_err-cores-in-Fun.ensures.none t))

pub returns-in_ok-cores-in-Fun-clause-ok : goal.returns-in_ok-cores-in-Fun-clause-ok
returns-in_ok-cores-in-Fun-clause-ok c =
    let types = c.as_slice.result.now in
    let equations = c.as_slice-in-Fun.result.now in
    let cores = c.in_ok-cores-in-Fun.cores in
    let too_wide = c.in_ok-cores-in-Fun.too_wide in
    let signatures = ap (λ (s : ResultState). s.0.0.2) c.at.view_is in
    let found = ap (declaration_walk c.args.at.now.0.0.2) c.in-Fun.is
    ∙ (λ i. declaration_walk (sym signatures i) (Fun c.in-Fun.field-0 (sym c.as_slice.ensures i) (sym c.as_slice-in-Fun.ensures i))) in
    found ∙ function_cored _ c.in-Fun.field-0 types equations cores too_wide c.in_ok-cores-in-Fun.ensures.ok
