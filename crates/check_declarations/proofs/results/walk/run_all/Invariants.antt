use Rattle.std.proofs.Common.{◌≡◌}
use Rattle.check_tasks.specs.results.ResultTasks.{result_run}
use Rattle.check_declarations.proofs.results.walk.run_all.Given as goal

abbrev pub invariant-loop : goal.invariant-loop
invariant-loop l = result_run l.tasks l.at ≡ result_run l.initial.tasks l.initial.at
