use Rattle.std.proofs.Common.{length, sym, ap, ◌∙◌}
use Rattle.std.proofs.lemmas.List.{nil_from_length}
use Rattle.std.proofs.lemmas.Result.{err_from_is_err_and}
use Rattle.check_tasks.specs.States.{State}
use Rattle.check_declarations.proofs.functions_lemmas.FunctionLaws.{function_told, function_untyped}
use Rattle.check_declarations.proofs.functions.functions.function_cores.Goals as goal

pub returns-in_err-found-clause-none : goal.returns-in_err-found-clause-none
returns-in_err-found-clause-none c =
    let p = err_from_is_err_and c.from_residual-in_err-found.result c.from_residual-in_err-found.ensures.1 in
    let none = nil_from_length c.args.at.now.0.0 (sym (c.variables.ensures ∙ ap (λ (s : State). length s.0.0) c.at.view_is) ∙ c.if-variables-ne0.false) in
    rw (p.1, p.2) (λ t. function_untyped c.args.at.now c.push_signature.new.at c.args.types.now c.args.equations.now none c.in_ok-push_signature.ensures.ok (c.in_err-found.ensures.none t))

pub returns-clause-ok : goal.returns-clause-ok
returns-clause-ok c =
    let none = nil_from_length c.args.at.now.0.0 (sym (c.variables.ensures ∙ ap (λ (s : State). length s.0.0) c.at.view_is) ∙ c.if-variables-ne0.false) in
    function_told c.args.at.now c.push_signature.new.at c.args.types.now c.args.equations.now none c.in_ok-push_signature.ensures.ok c.in_ok-found.found c.in_ok-found.ensures.ok
