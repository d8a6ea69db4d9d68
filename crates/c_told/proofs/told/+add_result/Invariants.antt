use Rattle.std.proofs.Common.{◌≡◌, ◌+◌, ◌*◌, max, drop}
use denote.Param.Weighed.{most}
use Rattle.typed_core.specs.declared.typed_tree.TypedResult.{size-TypedResult}
use Rattle.c_types.specs.Gathered.{gathered}
use Rattle.c_told.specs.Told.{with_all}
use Rattle.c_told.specs.inner.Arms.{result_arms_tell}
use Rattle.c_told.proofs.told.+add_result.Given as goal

abbrev pub decreases-add_result : goal.decreases-add_result
decreases-add_result l = 2 * size-TypedResult l.given.now

abbrev pub decreases-add_result_arms : goal.decreases-add_result_arms
decreases-add_result_arms l = 2 * most (λ arm. max 0 (max (size-TypedResult arm.1) 0)) l.arms.now + 1

abbrev pub invariant-add_result_arms-loop-arm : goal.invariant-add_result_arms-loop-arm
invariant-add_result_arms-loop-arm l =
    with_all (gathered l.types) (result_arms_tell (drop l.arm-index l.arms)) ≡ with_all (gathered l.initial.types) (result_arms_tell l.arms)
