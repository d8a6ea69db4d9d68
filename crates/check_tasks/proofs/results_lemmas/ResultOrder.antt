-- Tasks that stand first are done first.
use Rattle.std.proofs.Common.{◌≡◌, List, [], ◌∷◌, ◌++◌, Option, Some, None, refl}
use Rattle.check_typing.specs.Partial.{given}
use Rattle.check_tasks.specs.declared.results.task.ResultTask.{ResultTask}
use Rattle.check_tasks.specs.results.ResultStates.{ResultState}
use Rattle.check_tasks.specs.results.ResultTasks.{result_run, result_step}

pub run_append : (first rest : List ResultTask) (state : ResultState) → result_run (first ++ rest) state ≡ given (result_run first state) (result_run rest)
run_append [] rest state = refl
run_append (task ∷ first) rest state = by (result_step task state) (λ next. run_append first rest next)
  where
    by : (o : Option ResultState) → ((next : ResultState) → result_run (first ++ rest) next ≡ given (result_run first next) (result_run rest))
        → given o (λ next. result_run (first ++ rest) next) ≡ given (given o (λ next. result_run first next)) (result_run rest)
    by None more = refl
    by (Some next) more = more next
