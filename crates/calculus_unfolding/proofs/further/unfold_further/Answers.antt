use Rattle.std.proofs.Common.{is_some, sym, ◌∙◌}
use Rattle.std.proofs.lemmas.Result.{IfOk-weaker}
use Rattle.calculus_unfolding.specs.inner.Changes.{alone, arm_changed, expression_changed, first_changed, result_changed, two_changed}
use Rattle.calculus_unfolding.proofs.ResultForms.{case_found, case_layer}
use Rattle.calculus_unfolding.proofs.further.unfold_further.Goals as goal

pub returns-in-Case-clause-found : goal.returns-in-Case-clause-found
returns-in-Case-clause-found c =
    let changed = expression_changed (alone c.args.funs.now) c.args.scope in
    let arms_changed = first_changed (arm_changed (result_changed (alone c.args.funs.now)) c.args.scope) in
    IfOk-weaker c.unfold_in_case.result _ _
    (λ clear is. rw c.in-Case.is (rw (case_layer c.in-Case.part c.in-Case.field-1 c.in-Case.arms)
    (case_found (alone c.args.funs.now) c.in-Case.part c.unfold_in_case.new.part c.in-Case.field-1 c.in-Case.arms c.unfold_in_case.new.arms c.args.scope
    (is_some clear) ((λ i. two_changed changed arms_changed (sym c.in-Case.part-is i, sym c.in-Case.arms-is i)) ∙ is))))
    c.unfold_in_case.ensures.found
