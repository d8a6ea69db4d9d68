use Rattle.std.proofs.Common.{refl}
use Rattle.check_tasks.proofs.WholeLaws.{index_more}
use Rattle.check_expressions.proofs.Forms.{comes_to}
use Rattle.check_expressions.proofs.PlanLists.{index_plan}
use Rattle.check_expressions.proofs.list_tasks.index_tasks.Goals as goal

pub returns-clause-ok : goal.returns-clause-ok
returns-clause-ok c = comes_to c.first.result c.first.new.tasks (index_plan c.args.b) c.args.tasks.now c.args.at.now _ (index_more c.args.at.now c.args.b _ c.in_ok-_count.ensures.ok) c.first.ensures.ok
