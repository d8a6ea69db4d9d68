use Rattle.std.proofs.Common.{◌≡◌, ◌∷◌, [], refl, sym, ap, subst, ◌∙◌, Some, OnOk}
use Rattle.check_scopes.specs.types.Nodes.{ty_of}
use Rattle.check_typing.specs.Partial.{given}
use Rattle.check_typing.specs.inner.Walk.{walk, cast_walk}
use Rattle.check_scopes.specs.Known.{Known}
use Rattle.check_tasks.specs.States.{State}
use Rattle.check_tasks.specs.Tasks.{run, own_of}
use Rattle.check_tasks.proofs.WholeLaws.{cast_own}
use Rattle.check_expressions.proofs.Forms.{comes_to}
use Rattle.check_expressions.proofs.Found.{no_number}
use Rattle.check_expressions.proofs.PlanLists.{cast_plan}
use Rattle.check_expressions.proofs.named_tasks.cast_own.Goals as goal

pub returns-in_default-clause-none : goal.returns-in_default-clause-none
returns-in_default-clause-none c same = no_number _ _ (c.in_default.ensures c.args.at.now.0.2.types)

pub returns-clause-ok : goal.returns-clause-ok
returns-clause-ok c =
    let env : Known = c.at.inside.environment in
    let b = c.at.inside.builder in
    let st : State = (env, b.0, b.1, b.2) in
    let new : Known = c.push.new.self in
    let node = c.in-Some.node in
    subst (λ (s : State). OnOk c.first.result (run c.first.new.tasks (new, b.0, b.1, b.2)
    ≡ given (own_of ((cast_walk s.0.2 (walk s.0.2 c.args.a.now) c.args.ty.now).own s.0.0) s) (run c.args.tasks.now))) c.at.view_is
    (subst (λ (e : Known). OnOk c.first.result (run c.first.new.tasks (e, b.0, b.1, b.2)
    ≡ given (own_of ((cast_walk st.0.2 (walk st.0.2 c.args.a.now) c.args.ty.now).own st.0.0) st) (run c.args.tasks.now))) (sym c.in_ok-push.ensures)
    (comes_to c.first.result c.first.new.tasks (cast_plan c.args.a) c.args.tasks.now _ _
    (cast_own st c.args.a c.args.ty.now (ty_of [] node) (c.in-Some.ensures.is st.0.2.types) c.in-Some.ensures.number) c.first.ensures.ok))
