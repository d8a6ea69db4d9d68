use Rattle.std.proofs.Common.{◌+◌, ◌*◌}
use denote.Param.Weighed.{most}
use Rattle.hume_model.specs.declared.core_tree.Expr.{size-Expr}
use Rattle.hume_model.proofs.Ranks.{arms_size}
use Rattle.look_cores.proofs.Sizes.{part_size}
use Rattle.look_cores.proofs.expression_bounds.+expression.Given as goal

abbrev pub decreases-arms_bound : goal.decreases-arms_bound
decreases-arms_bound l = 3 * arms_size l.arms.now + 1

abbrev pub decreases-call_with_arguments : goal.decreases-call_with_arguments
decreases-call_with_arguments l = 3 * most size-Expr l.parts.now + 2

abbrev pub decreases-expression_bound : goal.decreases-expression_bound
decreases-expression_bound l = 3 * size-Expr l.e.now

abbrev pub decreases-object_bound : goal.decreases-object_bound
decreases-object_bound l = 3 * most size-Expr l.parts.now + 2

abbrev pub decreases-parts_bound : goal.decreases-parts_bound
decreases-parts_bound l = 3 * most size-Expr l.parts.now + 1

abbrev pub decreases-raise_bound : goal.decreases-raise_bound
decreases-raise_bound l = 3 * part_size l.part.now + 1
