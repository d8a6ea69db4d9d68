use Rattle.std.proofs.Common.{◌≡◌, drop, map, nat_le}
use Rattle.hume_model.specs.declared.core_tree.PatC.{PatC}
use Rattle.hume_model.specs.declared.core_tree.Res.{Res}
use Rattle.calculus_laws.specs.Depth.{deepest_arm, result_depth}
use Rattle.std.specs.Prelude.{◌+◌, ◌*◌}
use Rattle.hume_model.specs.declared.core_tree.Res.{size-Res}
use Rattle.calculus_unfolding.proofs.Measures.{ways_size}
use Rattle.box_calculus.proofs.depths.+result_is_within.Given as goal

abbrev pub decreases-result_is_within : goal.decreases-result_is_within
decreases-result_is_within l = 2 * size-Res l.given.now

abbrev pub decreases-ways_are_within : goal.decreases-ways_are_within
decreases-ways_are_within l = 2 * ways_size l.arms.now + 1

abbrev pub invariant-ways_are_within-loop-arm : goal.invariant-ways_are_within-loop-arm
invariant-ways_are_within-loop-arm l =
    nat_le (deepest_arm (map (λ (arm : PatC × Res). (arm.0, result_depth arm.1)) (drop l.arm-index l.arms))) l.depth
    ≡ nat_le (deepest_arm (map (λ (arm : PatC × Res). (arm.0, result_depth arm.1)) l.arms)) l.depth
