use Rattle.std.proofs.Common.{◌≡◌, ◌∙◌, ◌+◌, Bool, List, OnOk, ap, drop, map, subst, sym, ◌||◌}
use Rattle.c_analysis.specs.Targets.{target}
use Rattle.c_analysis.specs.inner.Marks.{arm_seen, arms_mark}
use Rattle.c_analysis.proofs.MarkForms.{arm_marks_next, arm_object_next, call_marks, case_is, con_marks, let_is, prim_marks, tuple_marks, vect_marks}
use Rattle.c_analysis.proofs.uses.+mark_used.Goals as goal

pub mark_arms-loop-place-preserved : goal.mark_arms-loop-place-preserved
mark_arms-loop-place-preserved t c =
    let s = target c.args.s in
    let was = c.in_ok-object.ensures in
    let tests = sym c.needs_test.ensures ∙ c.if-not-needs_test.false in
    record {
      marks = arm_marks_next s c.args.of.now c.arms_are_complete-complete.result c.args.arms.now c.loop-place.place c.index-arms-place.result
          c.loop-place.used.items c.mark_arm.new.used.items c.in_ok-object.object c.goes_on.result
          c.loop-place-test.true c.index-arms-place.is was.marks was.object tests c.goes_on.ensures
          ∙ c.loop-place.invariant.marks;
      object = ap (λ looked_at. looked_at || (arms_mark s c.args.of.now c.arms_are_complete-complete.result (map (arm_seen s) (drop (c.loop-place.place + 1) c.args.arms.now)) c.mark_arm.new.used.items).object) c.looks-looked_at.ensures
          ∙ arm_object_next s c.args.of.now c.arms_are_complete-complete.result c.args.arms.now c.loop-place.place c.index-arms-place.result
          c.loop-place.used.items c.mark_arm.new.used.items c.in_ok-object.object c.goes_on.result c.loop-place.looked_at
          c.loop-place-test.true c.index-arms-place.is was.marks was.object tests c.goes_on.ensures
          ∙ c.loop-place.invariant.object;
      complete = c.loop-place.invariant.complete;
    }

pub set_marks-returns-in-Prim : goal.set_marks-returns-in-Prim
set_marks-returns-in-Prim t c =
    subst (λ (marks : List Bool). OnOk c.mark_parts-in-Prim.result (c.mark_parts-in-Prim.new.used.items ≡ marks))
    (prim_marks (target c.args.s) c.args.used.now.items c.args.e.now c.in-Prim.field-0 c.in-Prim.field-1 c.in-Prim.parts c.as_slice-in-Prim.result.now c.in-Prim.is c.as_slice-in-Prim.ensures)
    c.mark_parts-in-Prim.ensures

pub set_marks-returns-in-Con : goal.set_marks-returns-in-Con
set_marks-returns-in-Con t c =
    subst (λ (marks : List Bool). OnOk c.mark_parts.result (c.mark_parts.new.used.items ≡ marks))
    (con_marks (target c.args.s) c.args.used.now.items c.args.e.now c.in-Con.field-0 c.in-Con.parts c.as_slice.result.now c.in-Con.is c.as_slice.ensures)
    c.mark_parts.ensures

pub set_marks-returns-in-Tuple : goal.set_marks-returns-in-Tuple
set_marks-returns-in-Tuple t c =
    subst (λ (marks : List Bool). OnOk c.mark_parts-in-Tuple.result (c.mark_parts-in-Tuple.new.used.items ≡ marks))
    (tuple_marks (target c.args.s) c.args.used.now.items c.args.e.now c.in-Tuple.parts c.as_slice-in-Tuple.result.now c.in-Tuple.is c.as_slice-in-Tuple.ensures)
    c.mark_parts-in-Tuple.ensures

pub set_marks-returns-in-Vect : goal.set_marks-returns-in-Vect
set_marks-returns-in-Vect t c =
    subst (λ (marks : List Bool). OnOk c.mark_parts-in-Vect.result (c.mark_parts-in-Vect.new.used.items ≡ marks))
    (vect_marks (target c.args.s) c.args.used.now.items c.args.e.now c.in-Vect.parts c.as_slice-in-Vect.result.now c.in-Vect.is c.as_slice-in-Vect.ensures)
    c.mark_parts-in-Vect.ensures

pub set_marks-returns-in-Case : goal.set_marks-returns-in-Case
set_marks-returns-in-Case t c =
    subst (λ (marks : List Bool). OnOk c.mark_case.result (c.mark_case.new.used.items ≡ marks))
    (case_is (target c.args.s) c.args.used.now.items c.args.e.now c.in-Case.of c.in-Case.part c.in-Case.arms c.deref-in-Case.result.now c.deref-in-Case-2.result.now c.as_slice-in-Case.result.now
    c.in-Case.is c.deref-in-Case.ensures c.deref-in-Case-2.ensures c.as_slice-in-Case.ensures)
    c.mark_case.ensures

pub set_marks-returns-in-Let : goal.set_marks-returns-in-Let
set_marks-returns-in-Let t c =
    subst (λ (marks : List Bool). OnOk c.mark_let.result (c.mark_let.new.used.items ≡ marks))
    (let_is (target c.args.s) c.args.used.now.items c.args.e.now c.in-Let.field-0 c.in-Let.part c.in-Let.body c.deref-in-Let.result.now c.deref-in-Let-2.result.now c.in-Let.is c.deref-in-Let.ensures c.deref-in-Let-2.ensures)
    c.mark_let.ensures
