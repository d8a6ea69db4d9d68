use Rattle.std.proofs.Common.{◌≡◌, ◌+◌, ◌*◌, max, take, map}
use denote.Param.Weighed.{most}
use Rattle.hume_model.specs.declared.core_tree.PatC.{PatC}
use Rattle.typed_core.specs.declared.typed_tree.TypedExpr.{TypedExpr, size-TypedExpr}
use Rattle.typed_core.specs.Erasing.{erased}
use Rattle.typed_core.proofs.expressions.+erase_boxed.Given as goal

abbrev pub decreases-erase_boxed : goal.decreases-erase_boxed
decreases-erase_boxed l = 4 * size-TypedExpr l.e.now

abbrev pub decreases-erase_index : goal.decreases-erase_index
decreases-erase_index l = 4 * max (size-TypedExpr l.vector.now) (size-TypedExpr l.place.now) + 2

abbrev pub decreases-erase_update : goal.decreases-erase_update
decreases-erase_update l = 4 * max (size-TypedExpr l.vector.now) (max (size-TypedExpr l.place.now) (size-TypedExpr l.item.now)) + 2

abbrev pub decreases-erase_if : goal.decreases-erase_if
decreases-erase_if l = 4 * max (size-TypedExpr l.test.now) (max (size-TypedExpr l.when_true.now) (size-TypedExpr l.when_false.now)) + 2

abbrev pub decreases-erase_case : goal.decreases-erase_case
decreases-erase_case l = 4 * max (size-TypedExpr l.part.now) (most (λ arm. max 0 (max (size-TypedExpr arm.1) 0)) l.arms.now) + 2

abbrev pub decreases-erase_let : goal.decreases-erase_let
decreases-erase_let l = 4 * max (size-TypedExpr l.part.now) (size-TypedExpr l.body.now) + 2

abbrev pub decreases-erase_parts : goal.decreases-erase_parts
decreases-erase_parts l = 4 * most size-TypedExpr l.parts.now + 1

abbrev pub decreases-erase_arms : goal.decreases-erase_arms
decreases-erase_arms l = 4 * most (λ arm. max 0 (max (size-TypedExpr arm.1) 0)) l.arms.now + 1

abbrev pub invariant-erase_parts-loop-part : goal.invariant-erase_parts-loop-part
invariant-erase_parts-loop-part l = l.core ≡ map erased (take l.part-index l.parts)

abbrev pub invariant-erase_arms-loop-arm : goal.invariant-erase_arms-loop-arm
invariant-erase_arms-loop-arm l = l.core ≡ map (λ (arm : PatC × TypedExpr). (arm.0, erased arm.1)) (take l.arm-index l.arms)
