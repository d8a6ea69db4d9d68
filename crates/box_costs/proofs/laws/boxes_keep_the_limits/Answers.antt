use Rattle.box_costs.proofs.Limits.{small_heap, small_stack, small_work}
use Rattle.box_costs.proofs.laws.boxes_keep_the_limits.Goals as goal

pub returns-clause-heap : goal.returns-clause-heap
returns-clause-heap c = small_heap

pub returns-clause-stack : goal.returns-clause-stack
returns-clause-stack c = small_stack

pub returns-clause-work : goal.returns-clause-work
returns-clause-work c = small_work
