-- What tasks come to that were put before others.
use Rattle.std.specs.Prelude.{◌≡◌, List, Option}
use Rattle.check_typing.specs.Partial.{given}
use Rattle.check_typing.specs.Cores.{Cored}
use Rattle.check_typing.specs.inner.Walk.{Typed}
use Rattle.check_tasks.specs.declared.task.Task.{Task}
use Rattle.check_tasks.specs.States.{State}
use Rattle.check_tasks.specs.Tasks.{run, own_of, against_of}

-- from the state, the tasks come to what is found by itself, and then to the others
abbrev pub DoesOwn : Option Typed → State → List Task → List Task → Type 0
DoesOwn found state others tasks = run tasks state ≡ given (own_of found state) (run others)

-- the same of what is found against a type
abbrev pub DoesAgainst : Option Cored → State → List Task → List Task → Type 0
DoesAgainst found state others tasks = run tasks state ≡ given (against_of found state) (run others)
