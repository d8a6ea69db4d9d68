use Rattle.std.proofs.Common.{◌≡◌, ◌+◌, ◌*◌, max, map, drop}
use denote.Param.Weighed.{most}
use Rattle.hume_ast.specs.declared.tree.Exp.{size-Exp}
use Rattle.check_counts.specs.Miscounts.{has_other_leaf, arm_leaves}
use Rattle.check_counts.specs.inner.Arms.{arm_with}
use Rattle.check_counts.proofs.results.+has_other_leaf.Given as goal

abbrev pub decreases-has_other_leaf : goal.decreases-has_other_leaf
decreases-has_other_leaf l = 2 * size-Exp l.e.now

abbrev pub decreases-an_arm_has_other_leaf : goal.decreases-an_arm_has_other_leaf
decreases-an_arm_has_other_leaf l = 2 * most (λ arm. max 0 (max (size-Exp arm.1) 0)) l.arms.now + 1

abbrev pub invariant-an_arm_has_other_leaf-loop-arm : goal.invariant-an_arm_has_other_leaf-loop-arm
invariant-an_arm_has_other_leaf-loop-arm l =
    let test = arm_with (has_other_leaf l.count) in
    arm_leaves (map test (drop l.arm-index l.arms)) ≡ arm_leaves (map test l.arms)
