use Rattle.std.proofs.Common.{refl}
use Rattle.check_tasks.proofs.WholeLaws.{vector_own}
use Rattle.check_expressions.proofs.Forms.{comes_to_each}
use Rattle.check_expressions.proofs.PlanLists.{vector_own_plan}
use Rattle.check_expressions.proofs.own_forms.vector_own.Goals as goal

pub returns-clause-ok : goal.returns-clause-ok
returns-clause-ok c = comes_to_each c.first.result c.first.new.tasks (vector_own_plan c.args.parts) c.args.tasks.now _ (λ st. vector_own st c.args.parts _ refl) c.first.ensures.ok
