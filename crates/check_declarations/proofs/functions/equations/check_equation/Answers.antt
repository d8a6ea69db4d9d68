use Rattle.std.proofs.Common.{◌∷◌, sym, ap, ◌∙◌}
use Rattle.std.proofs.lemmas.Result.{IfErr-weaker}
use Rattle.check_scopes.specs.types.Contexts.{top, below}
use Rattle.check_typing.specs.inner.Walk.{walk}
use Rattle.check_tasks.specs.declared.task.Task.TheVariants as task
use Rattle.check_tasks.specs.States.{State, with_types}
use Rattle.check_tasks.specs.Tasks.{step}
use Rattle.check_declarations.proofs.functions_lemmas.EquationLaws.{body_untyped}
use Rattle.check_declarations.proofs.functions.equations.check_equation.Goals as goal

pub returns-clause-none : goal.returns-clause-none
returns-clause-none c =
    let mid = c.perform_one.new.at in
    let first = c.at.inside.builder in
    let second = c.at-2.inside.builder in
    let before = (λ i. (c.in_ok-repeat_below.ensures i, first.0, first.1, first.2)) ∙ ap (λ (s : State). with_types (top (below s.0.1) ∷ s.0.1) s) c.at.view_is in
    let after = (λ i. (c.pop.ensures i, second.0, second.1, second.2)) ∙ ap (λ (s : State). with_types (below s.0.1) s) c.at-2.view_is in
    let matched = ap (step (task.MatchParts c.args.patterns 0)) (sym before) ∙ c.in_ok-perform_one.ensures.ok in
    IfErr-weaker c.against.result _ _
    (λ stop h t. body_untyped c.args.at.now c.args.patterns c.args.body.now mid matched
    (ap (λ (s : State). (walk s.0.2 c.args.body.now).against s.0.0 (top s.0.1)) (sym after) ∙ h t))
    c.against.ensures.none
