-- Tasks that stand first are done first.
use Rattle.std.proofs.Common.{◌≡◌, List, [], ◌∷◌, ◌++◌, Option, Some, None, refl}
use Rattle.check_typing.specs.Partial.{given}
use Rattle.check_tasks.specs.declared.task.Task.{Task}
use Rattle.check_tasks.specs.States.{State}
use Rattle.check_tasks.specs.Tasks.{run, step}

pub run_append : (first rest : List Task) (state : State) → run (first ++ rest) state ≡ given (run first state) (run rest)
run_append [] rest state = refl
run_append (task ∷ first) rest state = by (step task state) (λ next. run_append first rest next)
  where
    by : (o : Option State) → ((next : State) → run (first ++ rest) next ≡ given (run first next) (run rest))
        → given o (λ next. run (first ++ rest) next) ≡ given (given o (λ next. run first next)) (run rest)
    by None more = refl
    by (Some next) more = more next
