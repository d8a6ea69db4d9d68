use Rattle.std.proofs.Common.{◌≡◌, ◌∷◌, map, refl, sym, ap, subst, ◌∙◌, Some, OnOk}
use Rattle.hume_base.specs.declared.types.Ty.{out-Ty}
use Rattle.check_scopes.specs.types.Contexts.{top}
use Rattle.check_typing.specs.Partial.{given}
use Rattle.check_typing.specs.Signatures.{con_named}
use Rattle.check_typing.specs.Patterns.{pattern, con_bound}
use Rattle.check_scopes.specs.Known.{Known, with_constructor}
use Rattle.check_tasks.specs.States.{State}
use Rattle.check_tasks.specs.Tasks.{run, bound_of}
use Rattle.check_tasks.proofs.PatternLaws.{con_match}
use Rattle.check_expressions.proofs.Forms.{comes_to}
use Rattle.check_expressions.proofs.Found.{constructor_found, named_shape}
use Rattle.check_expressions.proofs.PlanLists.{con_match_plan}
use Rattle.check_expressions.proofs.pattern_tasks.constructor_pattern.Goals as goal

pub returns-clause-ok : goal.returns-clause-ok
returns-clause-ok c =
    let env : Known = c.at.inside.environment in
    let b = c.at.inside.builder in
    let st : State = (env, b.0, b.1, b.2) in
    let name = c.args.name.now in
    let new : Known = c.push_constructor.new.self in
    let found = constructor_found (con_named name env.2) env new c.in-Some.sum c.in-Some.place
    (ap (λ o. (o, new)) (sym c.in-Some.is) ∙ c.in_ok-sum.ensures ∙ ap (λ n. with_constructor (con_named n env.2) env) c.bytes.ensures) in
    let is_its = named_shape (out-Ty (top env.1)) c.in-Named.expected c.in-Some.sum (sym c.in-Named.is ∙ c.in_ok-expected.ensures) c.if-sum-expected.false in
    subst (λ (s : State). OnOk c.first.result (run c.first.new.tasks (new, b.0, b.1, b.2)
    ≡ given (bound_of (con_bound (con_named name s.0.2) (map (pattern s.0.2) c.args.parts.now) (top s.0.1)) s) (run c.args.tasks.now))) c.at.view_is
    (subst (λ (e : Known). OnOk c.first.result (run c.first.new.tasks (e, b.0, b.1, b.2)
    ≡ given (bound_of (con_bound (con_named name st.0.2) (map (pattern st.0.2) c.args.parts.now) (top st.0.1)) st) (run c.args.tasks.now))) (sym found.pushed)
    (comes_to c.first.result c.first.new.tasks (con_match_plan c.args.parts c.in-Some.place) c.args.tasks.now _ _
    (con_match st c.args.parts _ (record { sum = c.in-Some.sum; place = c.in-Some.place; fields = found.fields }) refl is_its
    ∙ ap (λ o. bound_of (con_bound o (map (pattern st.0.2) c.args.parts.now) (top st.0.1)) st) (sym found.is)) c.first.ensures.ok))
