use Rattle.std.proofs.Common.{◌≡◌, ◌+◌, ◌*◌, max, take, map}
use denote.Param.Weighed.{most}
use Rattle.hume_model.specs.declared.core_tree.PatC.{PatC}
use Rattle.typed_core.specs.declared.typed_tree.TypedResult.{TypedResult, size-TypedResult}
use Rattle.typed_core.specs.Erasing.{erased_result}
use Rattle.typed_core.proofs.results.+erase_boxed_result.Given as goal

abbrev pub decreases-erase_boxed_result : goal.decreases-erase_boxed_result
decreases-erase_boxed_result l = 4 * size-TypedResult l.given.now

abbrev pub decreases-erase_if : goal.decreases-erase_if
decreases-erase_if l = 4 * max (size-TypedResult l.when_true.now) (size-TypedResult l.when_false.now) + 2

abbrev pub decreases-erase_case : goal.decreases-erase_case
decreases-erase_case l = 4 * most (λ arm. max 0 (max (size-TypedResult arm.1) 0)) l.arms.now + 2

abbrev pub decreases-erase_let : goal.decreases-erase_let
decreases-erase_let l = 4 * size-TypedResult l.body.now + 2

abbrev pub decreases-erase_arms : goal.decreases-erase_arms
decreases-erase_arms l = 4 * most (λ arm. max 0 (max (size-TypedResult arm.1) 0)) l.arms.now + 1

abbrev pub invariant-erase_arms-loop-arm : goal.invariant-erase_arms-loop-arm
invariant-erase_arms-loop-arm l = l.core ≡ map (λ (arm : PatC × TypedResult). (arm.0, erased_result arm.1)) (take l.arm-index l.arms)
