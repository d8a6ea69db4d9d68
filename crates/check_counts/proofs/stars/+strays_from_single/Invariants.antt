use Rattle.std.proofs.Common.{◌≡◌, ◌+◌, ◌*◌, max, map, drop}
use denote.Param.Weighed.{most}
use Rattle.hume_ast.specs.declared.tree.Exp.{size-Exp}
use Rattle.check_counts.specs.Stars.{Stray, strays, any_arm}
use Rattle.check_counts.specs.inner.Arms.{arm_with}
use Rattle.check_counts.proofs.stars.+strays_from_single.Given as goal

abbrev pub decreases-strays_from_single : goal.decreases-strays_from_single
decreases-strays_from_single l = 2 * size-Exp l.e.now

abbrev pub decreases-an_arm_strays_from_single : goal.decreases-an_arm_strays_from_single
decreases-an_arm_strays_from_single l = 2 * most (λ arm. max 0 (max (size-Exp arm.1) 0)) l.arms.now + 1

abbrev pub invariant-an_arm_strays_from_single-loop-arm : goal.invariant-an_arm_strays_from_single-loop-arm
invariant-an_arm_strays_from_single-loop-arm l =
    let of : Stray → _ = λ part. part.single in
    any_arm of (map (arm_with strays) (drop l.arm-index l.arms)) ≡ any_arm of (map (arm_with strays) l.arms)
