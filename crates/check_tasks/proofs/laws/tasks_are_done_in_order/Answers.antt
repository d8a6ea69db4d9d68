use Rattle.check_tasks.proofs.Order.{run_append}
use Rattle.check_tasks.proofs.laws.tasks_are_done_in_order.Goals as goal

pub returns : goal.returns
returns c = λ first rest state. run_append first rest state
