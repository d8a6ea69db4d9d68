use Rattle.std.proofs.Common.{◌≡◌, ◌+◌, ◌*◌, max, map, drop}
use denote.Param.Weighed.{most}
use Rattle.hume_ast.specs.declared.tree.Exp.{size-Exp}
use Rattle.check_typing.specs.inner.Walk.{arm_walks_open}
use Rattle.check_tasks.specs.Tasks.{arm_walks}
use Rattle.check_expressions.proofs.open.+is_open.Given as goal

abbrev pub decreases-is_open : goal.decreases-is_open
decreases-is_open l = 2 * size-Exp l.e.now

abbrev pub decreases-are_arms_open : goal.decreases-are_arms_open
decreases-are_arms_open l = 2 * most (λ arm. max 0 (max (size-Exp arm.1) 0)) l.arms.now + 1

abbrev pub invariant-are_arms_open-loop-arm : goal.invariant-are_arms_open-loop-arm
invariant-are_arms_open-loop-arm l = arm_walks_open (arm_walks l.at.0.2 (drop l.arm-index l.arms)) ≡ arm_walks_open (arm_walks l.at.0.2 l.arms)
