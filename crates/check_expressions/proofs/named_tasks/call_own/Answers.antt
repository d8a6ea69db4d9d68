use Rattle.std.proofs.Common.{◌≡◌, ◌∷◌, refl, sym, ap, subst, ◌∙◌, Some, OnOk}
use Rattle.check_typing.specs.Partial.{given}
use Rattle.check_typing.specs.Signatures.{fun_named}
use Rattle.check_typing.specs.inner.Walk.{app_walk}
use Rattle.check_scopes.specs.Known.{Known, with_function}
use Rattle.check_tasks.specs.States.{State}
use Rattle.check_tasks.specs.Tasks.{run, own_of, walks}
use Rattle.check_tasks.proofs.WholeLaws.{call_own}
use Rattle.check_expressions.proofs.Forms.{comes_to}
use Rattle.check_expressions.proofs.PlanLists.{call_plan}
use Rattle.check_expressions.proofs.Found.{function_found}
use Rattle.check_expressions.proofs.named_tasks.call_own.Goals as goal

pub returns-clause-ok : goal.returns-clause-ok
returns-clause-ok c part rest h =
    let env : Known = c.at.inside.environment in
    let b = c.at.inside.builder in
    let st : State = (env, b.0, b.1, b.2) in
    let name = c.args.name.now in
    let new : Known = c.push_function.new.self in
    let found = function_found (fun_named name env.2) env new c.in-Some.number
    (ap (λ o. (o, new)) (sym c.in-Some.is) ∙ c.in_ok-number.ensures ∙ ap (λ n. with_function (fun_named n env.2) env) c.bytes.ensures) in
    subst (λ (s : State). OnOk c.first.result (run c.first.new.tasks (new, b.0, b.1, b.2)
    ≡ given (own_of ((app_walk s.0.2 name (walks s.0.2 c.args.parts.now)).own s.0.0) s) (run c.args.tasks.now))) c.at.view_is
    (subst (λ (e : Known). OnOk c.first.result (run c.first.new.tasks (e, b.0, b.1, b.2)
    ≡ given (own_of ((app_walk st.0.2 name (walks st.0.2 c.args.parts.now)).own st.0.0) st) (run c.args.tasks.now))) (sym found.pushed)
    (comes_to c.first.result c.first.new.tasks (call_plan c.args.parts c.in-Some.number) c.args.tasks.now _ _
    (call_own st name c.args.parts _ c.in-Some.number found.signature part rest refl h found.is) c.first.ensures.ok))
