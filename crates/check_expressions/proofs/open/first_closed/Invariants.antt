use Rattle.std.proofs.Common.{◌≡◌, take, true}
use Rattle.check_tasks.specs.Tasks.{walks, walks_open}
use Rattle.check_expressions.proofs.open.first_closed.Given as goal

abbrev pub invariant-loop-place : goal.invariant-loop-place
invariant-loop-place l = walks_open (walks l.at.0.2 (take l.place l.parts)) ≡ true
