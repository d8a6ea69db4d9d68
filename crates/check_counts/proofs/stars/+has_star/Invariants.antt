use Rattle.std.proofs.Common.{◌≡◌, ◌+◌, ◌*◌, max, map, drop}
use denote.Param.Weighed.{most}
use Rattle.hume_ast.specs.declared.tree.Exp.{size-Exp}
use Rattle.check_counts.specs.Stars.{Stray, strays, any_inner, any_arm}
use Rattle.check_counts.specs.inner.Arms.{arm_with}
use Rattle.check_counts.proofs.stars.+has_star.Given as goal

abbrev pub decreases-has_star : goal.decreases-has_star
decreases-has_star l = 2 * size-Exp l.e.now

abbrev pub decreases-a_part_has_star : goal.decreases-a_part_has_star
decreases-a_part_has_star l = 2 * most size-Exp l.parts.now + 1

abbrev pub decreases-an_arm_has_star : goal.decreases-an_arm_has_star
decreases-an_arm_has_star l = 2 * most (λ arm. max 0 (max (size-Exp arm.1) 0)) l.arms.now + 1

abbrev pub invariant-a_part_has_star-loop-part : goal.invariant-a_part_has_star-loop-part
invariant-a_part_has_star-loop-part l = any_inner (map strays (drop l.part-index l.parts)) ≡ any_inner (map strays l.parts)

abbrev pub invariant-an_arm_has_star-loop-arm : goal.invariant-an_arm_has_star-loop-arm
invariant-an_arm_has_star-loop-arm l =
    let inner : Stray → _ = λ part. part.inner in
    any_arm inner (map (arm_with strays) (drop l.arm-index l.arms)) ≡ any_arm inner (map (arm_with strays) l.arms)
