use Rattle.std.proofs.Common.{◌≡◌}
use Rattle.check_tasks.specs.Tasks.{run}
use Rattle.check_expressions.proofs.walk.run_all.Given as goal

abbrev pub invariant-loop : goal.invariant-loop
invariant-loop l = run l.tasks l.at ≡ run l.fn.tasks l.fn.at
