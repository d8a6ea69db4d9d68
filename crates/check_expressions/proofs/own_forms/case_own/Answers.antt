use Rattle.std.proofs.Common.{refl}
use Rattle.check_tasks.proofs.WholeLaws.{case_own}
use Rattle.check_expressions.proofs.Forms.{comes_to_each}
use Rattle.check_expressions.proofs.PlanLists.{case_own_plan}
use Rattle.check_expressions.proofs.own_forms.case_own.Goals as goal

pub returns-clause-ok : goal.returns-clause-ok
returns-clause-ok c = comes_to_each c.first.result c.first.new.tasks (case_own_plan c.args.a c.args.arms) c.args.tasks.now _ (λ st. case_own st c.args.a c.args.arms _ refl) c.first.ensures.ok
