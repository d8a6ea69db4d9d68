use Rattle.std.proofs.Common.{◌≡◌, ◌∷◌, refl, sym, ap, subst, ◌∙◌, Some, OnOk}
use Rattle.check_typing.specs.Partial.{given}
use Rattle.check_typing.specs.Signatures.{con_named}
use Rattle.check_typing.specs.inner.Walk.{con_walk}
use Rattle.check_scopes.specs.Known.{Known, with_constructor}
use Rattle.check_tasks.specs.States.{State}
use Rattle.check_tasks.specs.Tasks.{run, own_of, walks}
use Rattle.check_tasks.proofs.WholeLaws.{con_own}
use Rattle.check_expressions.proofs.Forms.{comes_to}
use Rattle.check_expressions.proofs.PlanLists.{con_plan}
use Rattle.check_expressions.proofs.Found.{constructor_found}
use Rattle.check_expressions.proofs.named_tasks.constructor_own.Goals as goal

pub returns-clause-ok : goal.returns-clause-ok
returns-clause-ok c =
    let env : Known = c.at.inside.environment in
    let b = c.at.inside.builder in
    let st : State = (env, b.0, b.1, b.2) in
    let name = c.args.name.now in
    let new : Known = c.push_constructor.new.self in
    let found = constructor_found (con_named name env.2) env new c.in-Some.sum c.in-Some.place
    (ap (λ o. (o, new)) (sym c.in-Some.is) ∙ c.in_ok-sum.ensures ∙ ap (λ n. with_constructor (con_named n env.2) env) c.bytes.ensures) in
    subst (λ (s : State). OnOk c.first.result (run c.first.new.tasks (new, b.0, b.1, b.2)
    ≡ given (own_of ((con_walk s.0.2 name (walks s.0.2 c.args.parts.now)).own s.0.0) s) (run c.args.tasks.now))) c.at.view_is
    (subst (λ (e : Known). OnOk c.first.result (run c.first.new.tasks (e, b.0, b.1, b.2)
    ≡ given (own_of ((con_walk st.0.2 name (walks st.0.2 c.args.parts.now)).own st.0.0) st) (run c.args.tasks.now))) (sym found.pushed)
    (comes_to c.first.result c.first.new.tasks (con_plan c.args.parts c.in-Some.sum c.in-Some.place) c.args.tasks.now _ _
    (con_own st name c.args.parts _ (record { sum = c.in-Some.sum; place = c.in-Some.place; fields = found.fields }) refl found.is) c.first.ensures.ok))
