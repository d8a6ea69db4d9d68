use Rattle.std.proofs.Common.{◌∙◌, ◌==◌, ◌&&◌, not, Bool, List, Some, sym, ap}
use Rattle.std.specs.List.{list_any, filter_map}
use Rattle.hume_model.specs.declared.core_tree.PatC.{PatC}
use Rattle.hume_model.specs.declared.core_tree.Res.{Res}
use Rattle.hume_model.specs.declared.exceptions.TheConstants.{NO_CASE}
use Rattle.hume_model.specs.Completeness.{are_complete}
use Rattle.hume_model.specs.Raising.{result_may_raise}
use Rattle.hume_exceptions.proofs.SetSteps.{or_two}
use Rattle.hume_exceptions.proofs.ResultForms.{raises-choice, raises-arms}
use Rattle.hume_exceptions.proofs.results.+result.Goals as goal

pub result_may_raise-returns-in-If : goal.result_may_raise-returns-in-If
result_may_raise-returns-in-If t c = record {
  each = λ exn low.
      let R : Res → Bool = result_may_raise c.args.core.now exn in
      c.or-in-If.ensures exn ∙ or_two _ _ _ _
      (c.may_raise-test.ensures.each exn low)
      (c.or.ensures exn ∙ or_two _ _ _ _
      (c.result_may_raise-when_true.ensures.each exn low ∙ ap R c.deref.ensures)
      (c.result_may_raise-when_false.ensures.each exn low ∙ ap R c.deref-in-If.ensures))
      ∙ sym (ap R c.in-If.is ∙ raises-choice c.args.core.now exn c.in-If.test c.in-If.when_true c.in-If.when_false);
}

pub result_may_raise-returns-in-Case : goal.result_may_raise-returns-in-Case
result_may_raise-returns-in-Case t c = record {
  each = λ exn low.
      let R : Res → Bool = result_may_raise c.args.core.now exn in
      c.or-in-Case-2.ensures exn ∙ or_two _ _ _ _
      (c.may_raise-part.ensures.each exn low)
      (c.or-in-Case.ensures exn ∙ or_two _ _ _ _
      (c.arms_set.ensures.each exn low ∙ ap (list_any (λ (arm : PatC × Res). R arm.1)) c.as_slice-arms.ensures)
      (c.only_if.ensures exn low
      ∙ ap (λ b. (exn == NO_CASE) && not b) (c.are_complete-complete.ensures ∙ ap (λ (arms : List (PatC × Res)). are_complete c.args.core.now.types c.in-Case.forms (filter_map (λ (arm : PatC × Res). Some arm.0) arms)) c.as_slice-arms.ensures)))
      ∙ sym (ap R c.in-Case.is ∙ raises-arms c.args.core.now exn c.in-Case.part c.in-Case.forms c.in-Case.arms);
}
