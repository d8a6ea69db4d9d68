use Rattle.check_tasks.proofs.results_lemmas.ResultOrder.{run_append}
use Rattle.check_tasks.proofs.results.laws.result_tasks_are_done_in_order.Goals as goal

pub returns : goal.returns
returns c = λ first rest state. run_append first rest state
