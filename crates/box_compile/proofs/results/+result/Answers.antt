use Rattle.std.proofs.Common.{List, take, OnOk, sym, subst}
use Rattle.hume_model.specs.declared.core_tree.PatC.{PatC}
use Rattle.hume_model.specs.declared.core_tree.Res.{Res}
use Rattle.box_compile.specs.inner.Entries.{entry_in}
use Rattle.box_compile.proofs.Appending.{on_ok}
use Rattle.box_compile.proofs.Taken.{taken_more, taken_all}
use Rattle.box_compile.proofs.ResultForms.{ResultDone, ResultArmsDone, ResultArmsBegun, choice_done, case_done, binding_done, no_arms, arms_more, arms_done, arm_done}
use Rattle.box_compile.proofs.results.+result.Goals as goal

pub emit_case-returns : goal.emit_case-returns
emit_case-returns t c =
    let E = entry_in c.args.entries.now in
    let r = c.emit_arms.result in
    let arms : List (PatC × Res) = c.args.arms.now in
    let stand : OnOk r (ResultArmsDone E c.args.places.now c.args.high c.emit_expression.new.writer c.emit_arms.new.writer arms) =
    subst (λ (l : List (PatC × Res)). OnOk r (ResultArmsDone E c.args.places.now c.args.high c.emit_expression.new.writer c.emit_arms.new.writer l))
    c.as_slice.ensures c.emit_arms.ensures in
    on_ok r (case_done c.args.part.now c.args.forms arms c.in_ok-emit_expression.ensures) stand

pub emit_choice-returns : goal.emit_choice-returns
emit_choice-returns t c =
    on_ok c.emit_result-2.result (choice_done c.in_ok-second.second c.args.test.now c.args.when_true.now c.args.when_false.now
    c.in_ok-emit_expression.ensures c.in_ok-emit.ensures
    c.in_ok-emit_result.ensures c.in_ok-reach.ensures) c.emit_result-2.ensures

pub emit_binding-returns : goal.emit_binding-returns
emit_binding-returns t c =
    on_ok c.emit_result.result (binding_done c.in_ok-inner.inner c.in_ok-plus.field-0 c.args.part.now c.args.body.now c.in_ok-inner.ensures c.in_ok-plus.ensures
    c.in_ok-emit_expression.ensures) c.emit_result.ensures

pub emit_arms-loop-arm-init : goal.emit_arms-loop-arm-init
emit_arms-loop-arm-init t c = no_arms

pub emit_arms-loop-arm-preserved : goal.emit_arms-loop-arm-preserved
emit_arms-loop-arm-preserved t c =
    let arms : List (PatC × Res) = c.args.arms.now in
    subst (λ (l : List (PatC × Res)). ResultArmsBegun (entry_in c.args.entries.now) c.args.places.now c.args.high c.args.writer.now c.emit_arm.new.writer l)
    (sym (taken_more arms c.loop-arm.arm-index c.arm-item.result c.loop-arm-test.true c.arm-item.is))
    (arms_more (take c.loop-arm.arm-index arms) c.arm-item.result c.loop-arm.invariant c.in_ok-emit_arm.ensures)

pub emit_arms-returns : goal.emit_arms-returns
emit_arms-returns t c =
    let arms : List (PatC × Res) = c.args.arms.now in
    let all : ResultArmsBegun (entry_in c.args.entries.now) c.args.places.now c.args.high c.args.writer.now c.loop-arm.writer arms =
    subst (λ (l : List (PatC × Res)). ResultArmsBegun (entry_in c.args.entries.now) c.args.places.now c.args.high c.args.writer.now c.loop-arm.writer l)
    (taken_all arms c.loop-arm.arm-index c.loop-arm-test.false) c.loop-arm.invariant in
    on_ok c.emit.result (arms_done arms all) c.emit.ensures

pub emit_arm-returns : goal.emit_arm-returns
emit_arm-returns t c =
    let w = c.in_ok-variables.ensures in
    on_ok c.reach.result
    (arm_done c.in_ok-top.top c.in_ok-variables.variables c.in_ok-plus.field-0 c.in_ok-other.other c.in_ok-inner.inner c.args.arm.now.0 c.args.arm.now.1
    c.in_ok-top.ensures w.all c.in_ok-plus.ensures c.in_ok-inner.ensures w.tests w.fields c.in_ok-emit_result.ensures)
    c.reach.ensures
