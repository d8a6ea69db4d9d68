use Rattle.std.proofs.Common.{refl, ap, sym, map, ◌∙◌}
use Rattle.c_sizes.specs.Frames.{also, arm_of, statement_frame}
use Rattle.c_sizes.specs.inner.Arms.{framed_arm}
use Rattle.c_sizes.proofs.StatementForms.{arm_of_parts, if_of_parts, switch_of_parts}
use Rattle.c_sizes.proofs.Turns.{next_turn}
use Rattle.c_sizes.proofs.statements.+statement_frame.Goals as goal

pub each_arm-loop-arm-preserved : goal.each_arm-loop-arm-preserved
each_arm-loop-arm-preserved t c =
    next_turn also (λ arms. map (arm_of c.args.functions.now) (map (framed_arm c.args.types.now c.args.functions.now) arms))
    (λ arm. arm_of c.args.functions.now (framed_arm c.args.types.now c.args.functions.now arm)) (λ y ys. refl)
    c.args.arms.now c.loop-arm.arm-index c.arm-item.result c.loop-arm.all c.also-all.result _ c.loop-arm-test.true c.arm-item.is
    (c.also-all.ensures ∙ ap (also c.loop-arm.all)
    (c.arm_frame.ensures ∙ arm_of_parts c.args.types.now c.args.functions.now c.arm-item.result c.as_slice.result.now c.as_slice.ensures))
    c.loop-arm.invariant

pub statement_frame-returns-in-If : goal.statement_frame-returns-in-If
statement_frame-returns-in-If t c =
    c.if_frame.ensures
    ∙ if_of_parts c.args.types.now c.args.functions.now c.in-If.test c.in-If.body c.in-If.others c.in-If.otherwise
    c.deref-in-If.result.now c.as_slice-in-If.result.now c.as_slice-in-If-2.result.now c.as_slice-in-If-3.result.now c.deref-in-If.ensures
    c.as_slice-in-If.ensures c.as_slice-in-If-2.ensures c.as_slice-in-If-3.ensures
    ∙ ap (statement_frame c.args.types.now c.args.functions.now) (sym c.in-If.is)

pub statement_frame-returns-in-Switch : goal.statement_frame-returns-in-Switch
statement_frame-returns-in-Switch t c =
    c.switch_frame.ensures
    ∙ switch_of_parts c.args.types.now c.args.functions.now c.in-Switch.subject c.in-Switch.cases c.in-Switch.otherwise
    c.deref-in-Switch.result.now c.as_slice-in-Switch.result.now c.as_slice-in-Switch-2.result.now
    c.deref-in-Switch.ensures c.as_slice-in-Switch.ensures c.as_slice-in-Switch-2.ensures
    ∙ ap (statement_frame c.args.types.now c.args.functions.now) (sym c.in-Switch.is)
