use Rattle.std.proofs.Common.{◌≡◌, take, true}
use Rattle.check_typing.specs.inner.Walk.{arm_walks_open}
use Rattle.check_tasks.specs.Tasks.{arm_walks}
use Rattle.check_expressions.proofs.open.first_closed_arm.Given as goal

abbrev pub invariant-loop-place : goal.invariant-loop-place
invariant-loop-place l = arm_walks_open (arm_walks l.at.0.2 (take l.place l.arms)) ≡ true
