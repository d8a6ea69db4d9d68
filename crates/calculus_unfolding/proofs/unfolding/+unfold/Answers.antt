use Rattle.std.proofs.Common.{◌≡◌, ap, sym, ◌∙◌}
use Rattle.std.proofs.lemmas.Result.{IfOk-weaker}
use Rattle.calculus_unfolding.specs.inner.Changes.{alone, arm_changed, expression_changed, first_changed, if_found, two_changed}
use Rattle.calculus_unfolding.proofs.UnfoldForms.{case_found, case_layer, con_found, con_layer, index_found, index_layer, prim_found, prim_layer, update_found, update_layer}
use Rattle.calculus_unfolding.proofs.unfolding.+unfold.Goals as goal

pub unfold-returns-in-Con-clause-found : goal.unfold-returns-in-Con-clause-found
unfold-returns-in-Con-clause-found t c =
    let changed = expression_changed (alone c.args.funs.now) c.args.scope in
    IfOk-weaker c.unfold_parts.result _ _
    (λ found is. rw c.in-Con.is (rw (con_layer c.in-Con.field-0 c.in-Con.parts)
    (con_found (alone c.args.funs.now) c.in-Con.field-0 c.in-Con.parts c.unfold_parts.new.parts c.args.scope found
    (ap (first_changed changed) (sym c.in-Con.parts-is) ∙ is))))
    c.unfold_parts.ensures.found

pub unfold-returns-in-Prim-clause-found : goal.unfold-returns-in-Prim-clause-found
unfold-returns-in-Prim-clause-found t c =
    let changed = expression_changed (alone c.args.funs.now) c.args.scope in
    IfOk-weaker c.unfold_parts-in-Prim.result _ _
    (λ found is. rw c.in-Prim.is (rw (prim_layer c.in-Prim.field-0 c.in-Prim.field-1 c.in-Prim.parts)
    (prim_found (alone c.args.funs.now) c.in-Prim.field-0 c.in-Prim.field-1 c.in-Prim.parts c.unfold_parts-in-Prim.new.parts c.args.scope found
    (ap (first_changed changed) (sym c.in-Prim.parts-is) ∙ is))))
    c.unfold_parts-in-Prim.ensures.found

pub unfold-returns-in-Index-clause-found : goal.unfold-returns-in-Index-clause-found
unfold-returns-in-Index-clause-found t c =
    let changed = expression_changed (alone c.args.funs.now) c.args.scope in
    IfOk-weaker c.unfold_two.result _ _
    (λ found is. rw c.in-Index.is (rw (index_layer c.in-Index.field-0 c.in-Index.vector c.in-Index.place)
    (index_found (alone c.args.funs.now) c.in-Index.field-0 c.in-Index.vector c.in-Index.place c.unfold_two.new.first c.unfold_two.new.second
    c.args.scope found
    ((λ i. two_changed changed changed (sym c.in-Index.vector-is i, sym c.in-Index.place-is i))
    ∙ is))))
    c.unfold_two.ensures.found

pub unfold-returns-in-Update-clause-found : goal.unfold-returns-in-Update-clause-found
unfold-returns-in-Update-clause-found t c =
    let changed = expression_changed (alone c.args.funs.now) c.args.scope in
    IfOk-weaker c.unfold_three.result _ _
    (λ found is. rw c.in-Update.is (rw (update_layer c.in-Update.field-0 c.in-Update.vector c.in-Update.place c.in-Update.item)
    (update_found (alone c.args.funs.now) c.in-Update.field-0 c.in-Update.vector c.in-Update.place c.in-Update.item c.unfold_three.new.first
    c.unfold_three.new.second c.unfold_three.new.third c.args.scope found
    ((λ i. two_changed changed (two_changed changed changed) (
      sym c.in-Update.vector-is i,
      (sym c.in-Update.place-is i, sym c.in-Update.item-is i),
    ))
    ∙ is))))
    c.unfold_three.ensures.found

pub unfold-returns-in-Case-clause-found : goal.unfold-returns-in-Case-clause-found
unfold-returns-in-Case-clause-found t c =
    let changed = expression_changed (alone c.args.funs.now) c.args.scope in
    let arms_changed = first_changed (arm_changed (expression_changed (alone c.args.funs.now)) c.args.scope) in
    IfOk-weaker c.unfold_case.result _ _
    (λ found is. rw c.in-Case.is (rw (case_layer c.in-Case.part c.in-Case.field-1 c.in-Case.arms)
    (case_found (alone c.args.funs.now) c.in-Case.part c.unfold_case.new.part c.in-Case.field-1 c.in-Case.arms c.unfold_case.new.arms c.args.scope found
    ((λ i. two_changed changed arms_changed (sym c.in-Case.part-is i, sym c.in-Case.arms-is i)) ∙ is))))
    c.unfold_case.ensures.found
