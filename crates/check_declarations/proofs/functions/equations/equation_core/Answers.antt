use Rattle.std.proofs.Common.{◌≡◌, ◌||◌, Some, length, take, drop, reverse, refl, sym, ap, ◌∙◌}
use Rattle.check_typing.specs.Patterns.{pat_cores, some_pat_too_wide}
use Rattle.check_tasks.specs.States.{State}
use Rattle.check_declarations.proofs.functions_lemmas.EquationLaws.{left_of, last_equation, equation_found, equation_left}
use Rattle.check_declarations.proofs.functions.equations.equation_core.Goals as goal
use Rattle.check_declarations.proofs.functions.equations.equation_core.Goals.{then-pats_too_wide, else-pats_too_wide}

pub returns-clause-keeps : goal.returns-clause-keeps
returns-clause-keeps c =
    let mid = c.check_equation.new.at in
    let before = c.at-2.inside.builder in
    let count = length c.args.patterns.now in
    let first = c.variables-count.result in
    let left = c.in_ok-pats.ensures.left
    ∙ (λ i. ((c.in_ok-body.ensures.left i).0, drop count (c.in_ok-body.ensures.left i).1, (c.in_ok-body.ensures.left i).2)) in
    (λ i. (c.leave.ensures i, (left i).0, (left i).1, (left i).2))
    ∙ ap (left_of first count) c.at-2.view_is
    ∙ ap (λ n. left_of n count mid) (c.variables-count.ensures ∙ ap (λ (s : State). length s.0.0) c.at.view_is)
    ∙ equation_left c.args.at.now c.args.patterns.now c.args.body.now mid count refl c.in_ok-check_equation.ensures.ok

pub returns-clause-ok : goal.returns-clause-ok
returns-clause-ok c =
    let count = length c.args.patterns.now in
    let body = c.in_ok-body.ensures.taken in
    let pats = c.in_ok-pats.ensures.taken
    ∙ (λ i. let last = reverse (take count (c.in_ok-body.ensures.left i).1) in (pat_cores last, some_pat_too_wide last)) in
    let too_wide : c.in_ok-pats.pats_too_wide || c.in_ok-body.body_too_wide ≡ c.if-pats_too_wide.result =
    elim c.if-pats_too_wide.branch [
      | then-pats_too_wide w ↦ ap (λ b. b || c.in_ok-body.body_too_wide) w.if-pats_too_wide.true ∙ sym (w.result-is ∙ w.if-pats_too_wide.true)
      | else-pats_too_wide w ↦ ap (λ b. b || c.in_ok-body.body_too_wide) w.if-pats_too_wide.false ∙ sym w.result-is
    ] in
    equation_found c.args.at.now c.args.patterns.now c.args.body.now c.check_equation.new.at count refl c.in_ok-check_equation.ensures.ok
    ∙ ap (λ (s : State). Some (last_equation count s)) (sym c.at-2.view_is)
    ∙ (λ i. Some (record { pats = (sym pats i).0; body = (sym body i).0 }, (sym pats i).1 || (sym body i).1))
    ∙ (λ i. Some (record { pats = c.in_ok-pats.pats; body = sym c.into_inner-body.ensures i }, too_wide i))
