use Rattle.std.proofs.Common.{◌+◌, ◌*◌, max}
use Rattle.hume_model.specs.declared.core_tree.Res.{size-Res}
use Rattle.box_compile.proofs.Measures.{result_arms_size}
use Rattle.box_compile.proofs.needed.+add_result.Given as goal

abbrev pub decreases-add_result : goal.decreases-add_result
decreases-add_result l = 2 * size-Res l.res.now

abbrev pub decreases-add_choice : goal.decreases-add_choice
decreases-add_choice l = 2 * max (size-Res l.when_true.now) (size-Res l.when_false.now) + 1

abbrev pub decreases-add_result_case : goal.decreases-add_result_case
decreases-add_result_case l = 2 * result_arms_size l.arms.now + 1

abbrev pub decreases-add_binding : goal.decreases-add_binding
decreases-add_binding l = 2 * size-Res l.body.now + 1
