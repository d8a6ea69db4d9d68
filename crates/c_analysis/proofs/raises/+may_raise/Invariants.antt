use Rattle.std.proofs.Common.{◌≡◌, ◌+◌, ◌*◌, drop, map, max}
use denote.Param.Weighed.{most}
use Rattle.hume_model.specs.declared.core_tree.PatC.{PatC}
use Rattle.typed_core.specs.declared.typed_tree.TypedExpr.{TypedExpr, size-TypedExpr}
use Rattle.c_analysis.specs.Raises.{raise_step, some_arms_raise, some_raise}
use Rattle.c_analysis.specs.Seen.{seen}
use Rattle.c_analysis.specs.Targets.{target}
use Rattle.c_analysis.proofs.raises.+may_raise.Given as goal

abbrev pub decreases-may_raise : goal.decreases-may_raise
decreases-may_raise l = 4 * size-TypedExpr l.e.now

abbrev pub decreases-one_may_raise : goal.decreases-one_may_raise
decreases-one_may_raise l = 4 * max (size-TypedExpr l.first.now) (size-TypedExpr l.second.now) + 1

abbrev pub decreases-one_of_three_may_raise : goal.decreases-one_of_three_may_raise
decreases-one_of_three_may_raise l = 4 * max (size-TypedExpr l.first.now) (max (size-TypedExpr l.second.now) (size-TypedExpr l.third.now)) + 2

abbrev pub decreases-some_may_raise : goal.decreases-some_may_raise
decreases-some_may_raise l = 4 * most size-TypedExpr l.parts.now + 1

abbrev pub decreases-operation_raises : goal.decreases-operation_raises
decreases-operation_raises l = 4 * most size-TypedExpr l.parts.now + 2

abbrev pub decreases-call_raises : goal.decreases-call_raises
decreases-call_raises l = 4 * most size-TypedExpr l.parts.now + 2

abbrev pub decreases-arms_may_raise : goal.decreases-arms_may_raise
decreases-arms_may_raise l = 4 * most (λ arm. max 0 (max (size-TypedExpr arm.1) 0)) l.arms.now + 1

abbrev pub decreases-case_raises : goal.decreases-case_raises
decreases-case_raises l = 4 * max (size-TypedExpr l.part.now) (most (λ arm. max 0 (max (size-TypedExpr arm.1) 0)) l.arms.now) + 2

abbrev pub invariant-some_may_raise-loop-part : goal.invariant-some_may_raise-loop-part
invariant-some_may_raise-loop-part l =
    some_raise (map (seen (raise_step (target l.s))) (drop l.part-index l.parts)) ≡ some_raise (map (seen (raise_step (target l.s))) l.parts)

abbrev pub invariant-arms_may_raise-loop-arm : goal.invariant-arms_may_raise-loop-arm
invariant-arms_may_raise-loop-arm l =
    some_arms_raise (map (λ (arm : PatC × TypedExpr). (arm.0, seen (raise_step (target l.s)) arm.1)) (drop l.arm-index l.arms))
    ≡ some_arms_raise (map (λ (arm : PatC × TypedExpr). (arm.0, seen (raise_step (target l.s)) arm.1)) l.arms)
