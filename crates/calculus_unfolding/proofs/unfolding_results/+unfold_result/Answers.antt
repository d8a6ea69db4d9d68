use Rattle.std.proofs.Common.{◌≡◌, ap, sym, ◌∙◌}
use Rattle.std.proofs.lemmas.Result.{IfOk-weaker}
use Rattle.calculus_unfolding.specs.inner.Changes.{alone, arm_changed, expression_changed, first_changed, if_found, result_changed, two_changed}
use Rattle.calculus_unfolding.proofs.ResultForms.{case_found, case_layer}
use Rattle.calculus_unfolding.proofs.unfolding_results.+unfold_result.Goals as goal

pub unfold_result-returns-in-Case-clause-found : goal.unfold_result-returns-in-Case-clause-found
unfold_result-returns-in-Case-clause-found t c =
    let changed = expression_changed (alone c.args.funs.now) c.args.scope in
    let arms_changed = first_changed (arm_changed (result_changed (alone c.args.funs.now)) c.args.scope) in
    IfOk-weaker c.unfold_case.result _ _
    (λ found is. rw c.in-Case.is (rw (case_layer c.in-Case.part c.in-Case.field-1 c.in-Case.arms)
    (case_found (alone c.args.funs.now) c.in-Case.part c.unfold_case.new.part c.in-Case.field-1 c.in-Case.arms c.unfold_case.new.arms c.args.scope found
    ((λ i. two_changed changed arms_changed (sym c.in-Case.part-is i, sym c.in-Case.arms-is i)) ∙ is))))
    c.unfold_case.ensures.found
