use Rattle.std.proofs.Common.{◌≡◌, ◌+◌, ◌*◌, max, map, drop}
use denote.Param.Weighed.{most}
use Rattle.hume_model.specs.declared.core_tree.Expr.{size-Expr}
use Rattle.hume_model.specs.Outcomes.{in_order, after_values}
use Rattle.hume_model.specs.Meaning.{eval_with, call_below, first_arm, first_equation}
use Rattle.hume_model.specs.inner.Arms.{arm_with}
use Rattle.hume_model.proofs.Ranks.{rank, arms_size, equations_size}
use Rattle.hume_model.proofs.evaluate.+evaluate.Given as goal

abbrev pub decreases-call : goal.decreases-call
decreases-call l = 3 * rank l.core.now l.bound

abbrev pub decreases-eval_all : goal.decreases-eval_all
decreases-eval_all l = 3 * (rank l.core.now l.bound + most size-Expr l.parts.now) + 1

abbrev pub decreases-eval_arms : goal.decreases-eval_arms
decreases-eval_arms l = 3 * (rank l.core.now l.bound + arms_size l.arms.now) + 1

abbrev pub decreases-eval_below : goal.decreases-eval_below
decreases-eval_below l = 3 * (rank l.core.now l.bound + size-Expr l.e.now)

abbrev pub decreases-eval_case : goal.decreases-eval_case
decreases-eval_case l = 3 * (rank l.core.now l.bound + max (size-Expr l.part.now) (arms_size l.arms.now)) + 2

abbrev pub decreases-eval_equations : goal.decreases-eval_equations
decreases-eval_equations l = 3 * (rank l.core.now l.bound + equations_size l.equations.now) + 1

abbrev pub decreases-eval_index : goal.decreases-eval_index
decreases-eval_index l = 3 * (rank l.core.now l.bound + max (size-Expr l.vector.now) (size-Expr l.place.now)) + 1

abbrev pub decreases-eval_update : goal.decreases-eval_update
decreases-eval_update l =
    3 * (rank l.core.now l.bound + max (size-Expr l.vector.now) (max (size-Expr l.place.now) (size-Expr l.new_item.now))) + 1

abbrev pub invariant-eval_all-loop-part : goal.invariant-eval_all-loop-part
invariant-eval_all-loop-part l =
    let meaning = eval_with (call_below l.core l.bound) in
    after_values l.values (in_order (map meaning (drop l.part-index l.parts)) l.env) ≡ in_order (map meaning l.parts) l.env

abbrev pub invariant-eval_arms-loop-arm : goal.invariant-eval_arms-loop-arm
invariant-eval_arms-loop-arm l =
    let arm_meaning = arm_with (eval_with (call_below l.core l.bound)) in
    first_arm (map arm_meaning (drop l.arm-index l.arms)) l.value l.env ≡ first_arm (map arm_meaning l.arms) l.value l.env

abbrev pub invariant-eval_equations-loop-equation : goal.invariant-eval_equations-loop-equation
invariant-eval_equations-loop-equation l =
    let meaning = eval_with (call_below l.core l.bound) in
    first_equation meaning (drop l.equation-index l.equations) l.args ≡ first_equation meaning l.equations l.args
