use Rattle.std.proofs.Common.{◌≡◌, ◌+◌, ◌*◌, max, map, drop}
use denote.Param.Weighed.{most}
use Rattle.hume_ast.specs.declared.tree.Exp.{size-Exp}
use Rattle.std.specs.List.{list_any}
use Rattle.check_names.specs.Twice.{any_true}
use Rattle.check_counts.specs.Miscounts.{miscounts, arm_miscounts}
use Rattle.check_counts.specs.inner.Arms.{arm_with}
use Rattle.check_counts.proofs.expressions.+miscounts.Given as goal

abbrev pub decreases-miscounts : goal.decreases-miscounts
decreases-miscounts l = 2 * size-Exp l.e.now

abbrev pub decreases-a_part_miscounts : goal.decreases-a_part_miscounts
decreases-a_part_miscounts l = 2 * most size-Exp l.parts.now + 1

abbrev pub decreases-an_arm_miscounts : goal.decreases-an_arm_miscounts
decreases-an_arm_miscounts l = 2 * most (λ arm. max 0 (max (size-Exp arm.1) 0)) l.arms.now + 1

abbrev pub invariant-a_part_miscounts-loop-part : goal.invariant-a_part_miscounts-loop-part
invariant-a_part_miscounts-loop-part l =
    let test = miscounts l.counts in
    any_true (map test (drop l.part-index l.parts)) ≡ any_true (map test l.parts)

abbrev pub invariant-an_arm_miscounts-loop-arm : goal.invariant-an_arm_miscounts-loop-arm
invariant-an_arm_miscounts-loop-arm l =
    let test = arm_with (miscounts l.counts) in
    list_any (arm_miscounts l.counts) (map test (drop l.arm-index l.arms)) ≡ list_any (arm_miscounts l.counts) (map test l.arms)
