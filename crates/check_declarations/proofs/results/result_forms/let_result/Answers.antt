use Rattle.std.proofs.Common.{◌≡◌, List, ℕ, length, ap, ◌∙◌}
use Rattle.check_tasks.specs.results.ResultStates.{ResultState}
use Rattle.check_tasks.specs.results.ResultTasks.{scope_of, signatures_of, last_outputs, result_run, result_of}
use Rattle.check_declarations.specs.results.inner.ResultPlans.{let_found}
use Rattle.check_declarations.proofs.results_lemmas.ResultForms.{comes_to, let_does, let_plan}
use Rattle.check_declarations.proofs.results.result_forms.let_result.Goals as goal

pub returns-clause-ok : goal.returns-clause-ok
returns-clause-ok c =
    let st = c.args.at.now in
    let a = c.args.a in
    let b = c.args.b in
    let name = c.bytes.result in
    let count : c.variables-count.result ≡ length (scope_of st) =
    c.variables-count.ensures ∙ ap (λ (s : ResultState). length (scope_of s)) c.at.view_is in
    let law =
    ap (λ n. result_run (let_plan a name b n) st) count ∙ let_does st name a b
    ∙ ap (λ (x : List ℕ). result_of ((let_found (signatures_of st) x a.now b.now).result (scope_of st) (last_outputs st)) st) c.bytes.ensures in
    comes_to c.first.result c.first.new.tasks (let_plan a name b c.variables-count.result) c.args.tasks.now st _ law c.first.ensures.ok
