use Rattle.std.proofs.Common.{◌≡◌, ◌+◌, ◌*◌, max, map, drop}
use denote.Param.Weighed.{most}
use Rattle.hume_model.specs.declared.core_tree.Res.{size-Res}
use Rattle.hume_model.specs.Results.{result_of, first_result}
use Rattle.hume_model.specs.inner.Arms.{result_arm_with}
use Rattle.hume_model.proofs.results.+outputs.Given as goal

abbrev pub decreases-arm_outputs : goal.decreases-arm_outputs
decreases-arm_outputs l = 3 * most (λ arm. max 0 (max (size-Res arm.1) 0)) l.arms.now + 1

abbrev pub decreases-case_outputs : goal.decreases-case_outputs
decreases-case_outputs l = 3 * most (λ arm. max 0 (max (size-Res arm.1) 0)) l.arms.now + 2

abbrev pub decreases-outputs_of : goal.decreases-outputs_of
decreases-outputs_of l = 3 * size-Res l.res.now

abbrev pub invariant-arm_outputs-loop-arm : goal.invariant-arm_outputs-loop-arm
invariant-arm_outputs-loop-arm l =
    let arm_meaning = result_arm_with (λ res env. result_of l.core env res) in
    first_result (map arm_meaning (drop l.arm-index l.arms)) l.value l.env ≡ first_result (map arm_meaning l.arms) l.value l.env
