use Rattle.std.proofs.Common.{◌≡◌, ◌+◌, ◌<◌, ◌≤◌, List, length, take, Option, OnOk, ap, sym, ◌∙◌, subst, arith}
use Rattle.hume_model.specs.declared.core_tree.PatC.{PatC}
use Rattle.hume_model.specs.declared.core_tree.Expr.{Expr}
use Rattle.hume_model.specs.declared.core_tree.Expr.TheVariants as expr
use Rattle.box_compile.specs.inner.Entries.{entry_in}
use Rattle.box_compile.proofs.Appending.{on_ok}
use Rattle.box_compile.proofs.Taken.{taken_more, taken_all, taken_long}
use Rattle.box_compile.proofs.Forms.{Done, PartsDone, ArmsDone, ArmsBegun, word_done, con_done, tuple_done, vector_done, operation_done, call_done, made, parts_then, no_parts, parts_more, index_done, update_done, choice_done, case_done, binding_done, raise_alone_done, raise_with_done, no_arms, arms_more, arms_done, arm_done}
use Rattle.box_compile.proofs.expressions.+expression.Goals as goal

pub emit_expression-returns-in-Word : goal.emit_expression-returns-in-Word
emit_expression-returns-in-Word t c =
    subst (λ e. OnOk c.emit.result (Done (entry_in c.args.entries.now) c.args.places.now c.args.high c.args.writer.now c.emit.new.self e)) (sym c.in-Word.is)
    (on_ok c.emit.result (word_done _) c.emit.ensures)

pub emit_expression-returns-in-Con : goal.emit_expression-returns-in-Con
emit_expression-returns-in-Con t c =
    let E = entry_in c.args.entries.now in
    let r = c.emit_object.result in
    subst (λ e. OnOk r (Done E c.args.places.now c.args.high c.args.writer.now c.emit_object.new.writer e)) (sym c.in-Con.is)
    (subst (λ (parts : List Expr). OnOk r (Done E c.args.places.now c.args.high c.args.writer.now c.emit_object.new.writer
    (expr.Con c.in-Con.tag parts))) c.as_slice.ensures
    (on_ok r (con_done c.in-Con.tag c.as_slice.result.now) c.emit_object.ensures))

pub emit_expression-returns-in-Tuple : goal.emit_expression-returns-in-Tuple
emit_expression-returns-in-Tuple t c =
    let E = entry_in c.args.entries.now in
    let r = c.emit_object-in-Tuple.result in
    subst (λ e. OnOk r (Done E c.args.places.now c.args.high c.args.writer.now c.emit_object-in-Tuple.new.writer e)) (sym c.in-Tuple.is)
    (subst (λ (parts : List Expr). OnOk r (Done E c.args.places.now c.args.high c.args.writer.now c.emit_object-in-Tuple.new.writer
    (expr.Tuple parts))) c.as_slice-in-Tuple.ensures
    (on_ok r (tuple_done c.as_slice-in-Tuple.result.now) c.emit_object-in-Tuple.ensures))

pub emit_expression-returns-in-Vect : goal.emit_expression-returns-in-Vect
emit_expression-returns-in-Vect t c =
    let E = entry_in c.args.entries.now in
    let r = c.emit_object-in-Vect.result in
    subst (λ e. OnOk r (Done E c.args.places.now c.args.high c.args.writer.now c.emit_object-in-Vect.new.writer e)) (sym c.in-Vect.is)
    (subst (λ (parts : List Expr). OnOk r (Done E c.args.places.now c.args.high c.args.writer.now c.emit_object-in-Vect.new.writer
    (expr.Vect parts))) c.as_slice-in-Vect.ensures
    (on_ok r (vector_done c.as_slice-in-Vect.result.now) c.emit_object-in-Vect.ensures))

pub emit_case-returns : goal.emit_case-returns
emit_case-returns t c =
    let E = entry_in c.args.entries.now in
    let r = c.emit_arms.result in
    let arms : List (PatC × Expr) = c.args.arms.now in
    let stand : OnOk r (ArmsDone E c.args.places.now c.args.high c.emit_expression.new.writer c.emit_arms.new.writer arms) =
    subst (λ (l : List (PatC × Expr)). OnOk r (ArmsDone E c.args.places.now c.args.high c.emit_expression.new.writer c.emit_arms.new.writer l))
    c.as_slice.ensures c.emit_arms.ensures in
    on_ok r (case_done c.args.part.now c.args.forms arms c.in_ok-emit_expression.ensures) stand

pub emit_object-returns : goal.emit_object-returns
emit_object-returns t c = on_ok c.emit_parts_then.result (made c.args.tag c.in_ok-count.count c.args.parts.now c.in_ok-count.ensures) c.emit_parts_then.ensures

pub emit_operation-returns : goal.emit_operation-returns
emit_operation-returns t c =
    on_ok c.emit_parts_then.result (operation_done c.args.op c.args.ty.now c.in_ok-scalar.scalar c.operation.result c.args.parts.now c.in_ok-scalar.ensures
    c.operation.ensures.same) c.emit_parts_then.ensures

pub emit_call-returns : goal.emit_call-returns
emit_call-returns t c =
    on_ok c.emit_parts_then.result (call_done c.args.number c.in_ok-to.to c.in_ok-count.count c.args.parts.now c.in_ok-to.ensures c.in_ok-count.ensures)
    c.emit_parts_then.ensures

pub emit_parts_then-returns : goal.emit_parts_then-returns
emit_parts_then-returns t c = on_ok c.emit.result (parts_then c.in_ok-emit_parts.ensures) c.emit.ensures

pub emit_parts-loop-i-init : goal.emit_parts-loop-i-init
emit_parts-loop-i-init t c = record { count = c.in_ok-count.ensures; stands = no_parts }

pub emit_parts-loop-i-preserved : goal.emit_parts-loop-i-preserved
emit_parts-loop-i-preserved t c =
    let parts = c.args.parts.now in
    let low : c.loop-i.i < length parts = omega (arith, c.loop-i-test.true, c.loop-i.invariant.count) in
    let top : c.in_ok-plus.field-0 ≡ c.args.high + length (take c.loop-i.i parts) = (let l = taken_long parts c.loop-i.i (omega (arith, low)) in
    c.in_ok-plus.ensures ∙ ap (λ k. c.args.high + k) (sym l)) in
    record {
      count = c.loop-i.invariant.count;
      stands = subst (λ (found : List Expr). PartsDone (entry_in c.args.entries.now) c.args.places.now c.args.high c.args.writer.now
          c.emit_expression.new.writer found)
          (sym (taken_more parts c.loop-i.i c.index-parts-i.result low c.index-parts-i.is))
          (parts_more c.in_ok-plus.field-0 top c.loop-i.invariant.stands c.in_ok-emit_expression.ensures);
    }

pub emit_parts-returns : goal.emit_parts-returns
emit_parts-returns t c =
    let past : length c.args.parts.now ≤ c.loop-i.i = omega (arith, c.loop-i-test.false, c.loop-i.invariant.count) in
    subst (λ (found : List Expr). PartsDone (entry_in c.args.entries.now) c.args.places.now c.args.high c.args.writer.now c.loop-i.writer found)
    (taken_all c.args.parts.now c.loop-i.i past) c.loop-i.invariant.stands

pub emit_index-returns : goal.emit_index-returns
emit_index-returns t c =
    on_ok c.emit.result (index_done c.args.count c.in_ok-plus.field-0 c.args.vector.now c.args.place.now c.in_ok-plus.ensures c.in_ok-emit_expression.ensures
    c.in_ok-emit_expression-2.ensures) c.emit.ensures

pub emit_update-returns : goal.emit_update-returns
emit_update-returns t c =
    on_ok c.emit.result (update_done c.args.count c.in_ok-plus.field-0 c.in_ok-plus-2.field-0 c.args.vector.now c.args.place.now c.args.item.now
    c.in_ok-plus.ensures c.in_ok-plus-2.ensures
    c.in_ok-emit_expression.ensures c.in_ok-emit_expression-2.ensures c.in_ok-emit_expression-3.ensures) c.emit.ensures

pub emit_choice-returns : goal.emit_choice-returns
emit_choice-returns t c =
    on_ok c.reach-2.result (choice_done c.in_ok-second.second c.in_ok-to.to c.args.test.now c.args.when_true.now c.args.when_false.now
    c.in_ok-emit_expression.ensures c.in_ok-emit.ensures
    c.in_ok-emit_expression-2.ensures c.in_ok-emit-2.ensures c.in_ok-reach.ensures c.in_ok-emit_expression-3.ensures) c.reach-2.ensures

pub emit_binding-returns : goal.emit_binding-returns
emit_binding-returns t c =
    on_ok c.emit.result (binding_done c.in_ok-inner.inner c.in_ok-plus.field-0 c.args.part.now c.args.body.now c.in_ok-inner.ensures c.in_ok-plus.ensures
    c.in_ok-emit_expression.ensures c.in_ok-emit_expression-2.ensures) c.emit.ensures

pub emit_raise-returns-in_ok-emit-in-None : goal.emit_raise-returns-in_ok-emit-in-None
emit_raise-returns-in_ok-emit-in-None t c =
    let r = c.emit-in-None.result in
    subst (λ (part : Option Expr). OnOk r (Done (entry_in c.args.entries.now) c.args.places.now c.args.high c.args.writer.now c.emit-in-None.new.self
    (expr.Raise c.args.exn part))) (sym c.in-None.is)
    (on_ok r (raise_alone_done c.args.exn c.in_ok-emit-in-None.ensures) c.emit-in-None.ensures)

pub emit_raise-returns-in_ok-emit_expression-in-Some : goal.emit_raise-returns-in_ok-emit_expression-in-Some
emit_raise-returns-in_ok-emit_expression-in-Some t c =
    let r = c.emit-in-Some.result in
    let E = entry_in c.args.entries.now in
    let part : Done E c.args.places.now c.args.high c.args.writer.now c.emit_expression.new.writer c.in-Some.part =
    subst (λ e. Done E c.args.places.now c.args.high c.args.writer.now c.emit_expression.new.writer e) c.deref.ensures
    c.in_ok-emit_expression-in-Some.ensures in
    subst (λ (part : Option Expr). OnOk r (Done E c.args.places.now c.args.high c.args.writer.now c.emit-in-Some.new.self (expr.Raise c.args.exn part)))
    (sym c.in-Some.is)
    (on_ok r (raise_with_done c.args.exn c.in-Some.part part) c.emit-in-Some.ensures)

pub emit_arms-loop-arm-init : goal.emit_arms-loop-arm-init
emit_arms-loop-arm-init t c = no_arms c.in_ok-end.end

pub emit_arms-loop-arm-preserved : goal.emit_arms-loop-arm-preserved
emit_arms-loop-arm-preserved t c =
    let arms : List (PatC × Expr) = c.args.arms.now in
    subst (λ (found : List (PatC × Expr)). ArmsBegun (entry_in c.args.entries.now) c.args.places.now c.args.high c.in_ok-end.end c.args.writer.now
    c.emit_arm.new.writer found)
    (sym (taken_more arms c.loop-arm.arm-index c.arm-item.result c.loop-arm-test.true c.arm-item.is))
    (arms_more c.in_ok-end.end (take c.loop-arm.arm-index arms) c.arm-item.result c.loop-arm.invariant c.in_ok-emit_arm.ensures)

pub emit_arms-returns : goal.emit_arms-returns
emit_arms-returns t c =
    let arms : List (PatC × Expr) = c.args.arms.now in
    let all : ArmsBegun (entry_in c.args.entries.now) c.args.places.now c.args.high c.in_ok-end.end c.args.writer.now c.loop-arm.writer arms =
    subst (λ (found : List (PatC × Expr)). ArmsBegun (entry_in c.args.entries.now) c.args.places.now c.args.high c.in_ok-end.end c.args.writer.now
    c.loop-arm.writer found)
    (taken_all arms c.loop-arm.arm-index c.loop-arm-test.false) c.loop-arm.invariant in
    on_ok c.reach.result (arms_done c.in_ok-end.end arms all c.in_ok-emit.ensures) c.reach.ensures

pub emit_arm-returns : goal.emit_arm-returns
emit_arm-returns t c =
    let w = c.in_ok-variables.ensures in
    on_ok c.reach.result
    (arm_done c.in_ok-top.top c.in_ok-variables.variables c.in_ok-plus.field-0 c.in_ok-plus-2.field-0 c.args.end c.in_ok-other.other c.in_ok-inner.inner
    c.args.arm.now.0 c.args.arm.now.1 c.in_ok-top.ensures w.all c.in_ok-plus.ensures c.in_ok-plus-2.ensures c.in_ok-inner.ensures
    w.tests w.fields c.in_ok-emit_expression.ensures c.in_ok-emit.ensures c.in_ok-emit-2.ensures)
    c.reach.ensures
