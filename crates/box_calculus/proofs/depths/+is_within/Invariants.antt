use Rattle.std.proofs.Common.{◌≡◌, drop, map, nat_le}
use Rattle.hume_base.specs.Sizes.{greatest}
use Rattle.hume_model.specs.declared.core_tree.Expr.{Expr}
use Rattle.hume_model.specs.declared.core_tree.PatC.{PatC}
use Rattle.calculus_laws.specs.Depth.{deepest_arm, expression_depth}
use Rattle.std.specs.Prelude.{◌+◌, ◌*◌}
use denote.Param.Weighed.{most}
use Rattle.hume_model.specs.declared.core_tree.Expr.{size-Expr}
use Rattle.hume_model.proofs.Ranks.{arms_size}
use Rattle.calculus_unfolding.proofs.Measures.{part_size}
use Rattle.box_calculus.proofs.depths.+is_within.Given as goal

abbrev pub decreases-is_within : goal.decreases-is_within
decreases-is_within l = 3 * size-Expr l.e.now

abbrev pub decreases-is_within_if_there : goal.decreases-is_within_if_there
decreases-is_within_if_there l = 3 * part_size l.part.now + 1

abbrev pub decreases-are_within : goal.decreases-are_within
decreases-are_within l = 3 * most size-Expr l.parts.now + 1

abbrev pub decreases-arms_are_within : goal.decreases-arms_are_within
decreases-arms_are_within l = 3 * arms_size l.arms.now + 1

abbrev pub invariant-are_within-loop-part : goal.invariant-are_within-loop-part
invariant-are_within-loop-part l =
    nat_le (greatest (map expression_depth (drop l.part-index l.parts))) l.depth ≡ nat_le (greatest (map expression_depth l.parts)) l.depth

abbrev pub invariant-arms_are_within-loop-arm : goal.invariant-arms_are_within-loop-arm
invariant-arms_are_within-loop-arm l =
    nat_le (deepest_arm (map (λ (arm : PatC × Expr). (arm.0, expression_depth arm.1)) (drop l.arm-index l.arms))) l.depth
    ≡ nat_le (deepest_arm (map (λ (arm : PatC × Expr). (arm.0, expression_depth arm.1)) l.arms)) l.depth
