use Rattle.std.proofs.Common.{◌∙◌, ◌==◌, ◌&&◌, not, Bool, List, Some, sym, ap}
use Rattle.std.specs.List.{list_any, filter_map}
use Rattle.hume_model.specs.declared.core_tree.PatC.{PatC}
use Rattle.hume_model.specs.declared.core_tree.Expr.{Expr}
use Rattle.hume_model.specs.declared.exceptions.TheConstants.{DIV_ZERO, RANGE, NO_CASE}
use Rattle.hume_model.specs.Completeness.{are_complete}
use Rattle.hume_model.specs.Raising.{raises_with, may_be_outside}
use Rattle.hume_exceptions.specs.Sets.{called_by}
use Rattle.hume_exceptions.specs.inner.Seen.{literal_of, divisor_may_be_zero}
use Rattle.hume_exceptions.proofs.SetSteps.{or_two}
use Rattle.hume_exceptions.proofs.Forms.{raises-con, raises-prim, raises-index, raises-update, raises-if, raises-case, raises-call}
use Rattle.hume_exceptions.proofs.expressions.+expression.Goals as goal

pub expression_set-returns-in-Con : goal.expression_set-returns-in-Con
expression_set-returns-in-Con t c = record {
  each = λ exn low.
      let called = called_by c.args.called.now exn in
      let R : Expr → Bool = raises_with c.args.types.now called exn in
      c.parts_set.ensures.each exn low ∙ ap (list_any R) c.as_slice.ensures
      ∙ sym (ap R c.in-Con.is ∙ raises-con c.args.types.now called exn c.in-Con.field-0 c.in-Con.parts);
}

pub expression_set-returns-in-Prim : goal.expression_set-returns-in-Prim
expression_set-returns-in-Prim t c = record {
  each = λ exn low.
      let called = called_by c.args.called.now exn in
      let R : Expr → Bool = raises_with c.args.types.now called exn in
      c.or.ensures exn ∙ or_two _ _ _ _
      (c.parts_set-in-Prim.ensures.each exn low ∙ ap (list_any R) c.as_slice-parts.ensures)
      (c.only_if.ensures exn low ∙ ap (λ b. (exn == DIV_ZERO) && b) (c.divisor_may_be_zero-divides.ensures ∙ ap (divisor_may_be_zero c.in-Prim.op) c.as_slice-parts.ensures))
      ∙ sym (ap R c.in-Prim.is ∙ raises-prim c.args.types.now called exn c.in-Prim.op c.in-Prim.field-1 c.in-Prim.parts);
}

pub expression_set-returns-in-Index : goal.expression_set-returns-in-Index
expression_set-returns-in-Index t c = record {
  each = λ exn low.
      let called = called_by c.args.called.now exn in
      let R : Expr → Bool = raises_with c.args.types.now called exn in
      c.or-in-Index-2.ensures exn ∙ or_two _ _ _ _
      (c.expression_set-vector.ensures.each exn low ∙ ap R c.deref-in-Index.ensures)
      (c.or-in-Index.ensures exn ∙ or_two _ _ _ _
      (c.expression_set-place.ensures.each exn low ∙ ap R c.deref-in-Index-2.ensures)
      (c.only_if-in-Index.ensures exn low ∙ ap (λ b. (exn == RANGE) && b) (c.is_maybe_outside-outside.ensures ∙ ap (λ e. may_be_outside c.in-Index.count (literal_of e)) c.deref.ensures)))
      ∙ sym (ap R c.in-Index.is ∙ raises-index c.args.types.now called exn c.in-Index.count c.in-Index.vector c.in-Index.place);
}

pub expression_set-returns-in-Update : goal.expression_set-returns-in-Update
expression_set-returns-in-Update t c = record {
  each = λ exn low.
      let called = called_by c.args.called.now exn in
      let R : Expr → Bool = raises_with c.args.types.now called exn in
      c.or-in-Update-3.ensures exn ∙ or_two _ _ _ _
      (c.expression_set-vector-in-Update.ensures.each exn low ∙ ap R c.deref-in-Update-2.ensures)
      (c.or-in-Update-2.ensures exn ∙ or_two _ _ _ _
      (c.expression_set-place-in-Update.ensures.each exn low ∙ ap R c.deref-in-Update-3.ensures)
      (c.or-in-Update.ensures exn ∙ or_two _ _ _ _
      (c.expression_set-item.ensures.each exn low ∙ ap R c.deref-in-Update-4.ensures)
      (c.only_if-in-Update.ensures exn low
      ∙ ap (λ b. (exn == RANGE) && b) (c.is_maybe_outside-outside-in-Update.ensures ∙ ap (λ e. may_be_outside c.in-Update.count (literal_of e)) c.deref-in-Update.ensures))))
      ∙ sym (ap R c.in-Update.is ∙ raises-update c.args.types.now called exn c.in-Update.count c.in-Update.vector c.in-Update.place c.in-Update.item);
}

pub expression_set-returns-in-If : goal.expression_set-returns-in-If
expression_set-returns-in-If t c = record {
  each = λ exn low.
      let called = called_by c.args.called.now exn in
      let R : Expr → Bool = raises_with c.args.types.now called exn in
      c.or-in-If-2.ensures exn ∙ or_two _ _ _ _
      (c.expression_set-test.ensures.each exn low ∙ ap R c.deref-in-If.ensures)
      (c.or-in-If.ensures exn ∙ or_two _ _ _ _
      (c.expression_set-when_true.ensures.each exn low ∙ ap R c.deref-in-If-2.ensures)
      (c.expression_set-when_false.ensures.each exn low ∙ ap R c.deref-in-If-3.ensures))
      ∙ sym (ap R c.in-If.is ∙ raises-if c.args.types.now called exn c.in-If.test c.in-If.when_true c.in-If.when_false);
}

pub expression_set-returns-in-Case : goal.expression_set-returns-in-Case
expression_set-returns-in-Case t c = record {
  each = λ exn low.
      let called = called_by c.args.called.now exn in
      let R : Expr → Bool = raises_with c.args.types.now called exn in
      c.or-in-Case-2.ensures exn ∙ or_two _ _ _ _
      (c.expression_set-part.ensures.each exn low ∙ ap R c.deref-in-Case.ensures)
      (c.or-in-Case.ensures exn ∙ or_two _ _ _ _
      (c.arms_set.ensures.each exn low ∙ ap (list_any (λ (arm : PatC × Expr). R arm.1)) c.as_slice-arms.ensures)
      (c.only_if-in-Case.ensures exn low
      ∙ ap (λ b. (exn == NO_CASE) && not b) (c.are_complete-complete.ensures ∙ ap (λ (arms : List (PatC × Expr)). are_complete c.args.types.now c.in-Case.forms (filter_map (λ (arm : PatC × Expr). Some arm.0) arms)) c.as_slice-arms.ensures)))
      ∙ sym (ap R c.in-Case.is ∙ raises-case c.args.types.now called exn c.in-Case.part c.in-Case.forms c.in-Case.arms);
}

pub expression_set-returns-in-Call : goal.expression_set-returns-in-Call
expression_set-returns-in-Call t c = record {
  each = λ exn low.
      let called = called_by c.args.called.now exn in
      let R : Expr → Bool = raises_with c.args.types.now called exn in
      c.or-in-Call.ensures exn ∙ or_two _ _ _ _
      (c.parts_set-in-Call.ensures.each exn low ∙ ap (list_any R) c.as_slice-in-Call.ensures)
      (c.called_set.ensures.each exn low)
      ∙ sym (ap R c.in-Call.is ∙ raises-call c.args.types.now called exn c.in-Call.function c.in-Call.parts);
}
