use Rattle.std.proofs.Common.{◌+◌, ◌*◌, max, take}
use Rattle.hume_model.specs.declared.core_tree.Res.{size-Res}
use Rattle.box_compile.specs.inner.Emitted.{Emitted}
use Rattle.box_compile.specs.inner.Entries.{entry_in}
use Rattle.box_compile.specs.inner.ResultArms.{ResultArmsBegin}
use Rattle.box_compile.proofs.Measures.{result_arms_size}
use Rattle.box_compile.proofs.results.+result.Given as goal

abbrev pub decreases-emit_result : goal.decreases-emit_result
decreases-emit_result l = 4 * size-Res l.res.now

abbrev pub decreases-emit_choice : goal.decreases-emit_choice
decreases-emit_choice l = 4 * max (size-Res l.when_true.now) (size-Res l.when_false.now) + 1

abbrev pub decreases-emit_binding : goal.decreases-emit_binding
decreases-emit_binding l = 4 * size-Res l.body.now + 1

abbrev pub decreases-emit_case : goal.decreases-emit_case
decreases-emit_case l = 4 * result_arms_size l.arms.now + 3

abbrev pub decreases-emit_arms : goal.decreases-emit_arms
decreases-emit_arms l = 4 * result_arms_size l.arms.now + 2

abbrev pub decreases-emit_arm : goal.decreases-emit_arm
decreases-emit_arm l = 4 * size-Res l.arm.now.1 + 1

abbrev pub invariant-emit_arms-loop-arm : goal.invariant-emit_arms-loop-arm
invariant-emit_arms-loop-arm l = Emitted l.fn.writer l.writer (λ code from to. ResultArmsBegin code (entry_in l.entries) l.places l.high from to
    (take l.arm-index l.arms))
