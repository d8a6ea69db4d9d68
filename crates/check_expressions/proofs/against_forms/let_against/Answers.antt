use Rattle.std.proofs.Common.{◌≡◌, List, ℕ, length, ap, ◌∙◌}
use Rattle.check_scopes.specs.types.Contexts.{top}
use Rattle.check_typing.specs.inner.Walk.{walk, let_walk}
use Rattle.check_tasks.specs.States.{State}
use Rattle.check_tasks.specs.Tasks.{run, against_of}
use Rattle.check_tasks.proofs.FormLaws.{let_against}
use Rattle.check_expressions.proofs.Forms.{comes_to}
use Rattle.check_expressions.proofs.PlanLists.{let_against_plan}
use Rattle.check_expressions.proofs.against_forms.let_against.Goals as goal

pub returns-clause-ok : goal.returns-clause-ok
returns-clause-ok c =
    let st = c.args.at.now in
    let a = c.args.a in
    let b = c.args.b in
    let name = c.bytes.result in
    let count : c.variables-count.result ≡ length st.0.0 = c.variables-count.ensures ∙ ap (λ (s : State). length s.0.0) c.at.view_is in
    comes_to c.first.result c.first.new.tasks (let_against_plan a name b c.variables-count.result) c.args.tasks.now st _
    (ap (λ n. run (let_against_plan a name b n) st) count ∙ let_against st a b name
    ∙ ap (λ (x : List ℕ). against_of ((let_walk x (walk st.0.2 a.now) (walk st.0.2 b.now)).against st.0.0 (top st.0.1)) st) c.bytes.ensures)
    c.first.ensures.ok
