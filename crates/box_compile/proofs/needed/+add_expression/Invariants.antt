use Rattle.std.proofs.Common.{◌+◌, ◌*◌, max}
use denote.Param.Weighed.{most}
use Rattle.hume_model.specs.declared.core_tree.Expr.{size-Expr}
use Rattle.hume_model.proofs.Ranks.{arms_size}
use Rattle.box_compile.proofs.Measures.{part_size}
use Rattle.box_compile.proofs.needed.+add_expression.Given as goal

abbrev pub decreases-add_expression : goal.decreases-add_expression
decreases-add_expression l = 4 * size-Expr l.e.now

abbrev pub decreases-add_two : goal.decreases-add_two
decreases-add_two l = 4 * max (size-Expr l.first.now) (size-Expr l.second.now) + 1

abbrev pub decreases-add_three : goal.decreases-add_three
decreases-add_three l = 4 * max (size-Expr l.first.now) (max (size-Expr l.second.now) (size-Expr l.third.now)) + 2

abbrev pub decreases-add_case : goal.decreases-add_case
decreases-add_case l = 4 * max (size-Expr l.part.now) (arms_size l.arms.now) + 1

abbrev pub decreases-add_call : goal.decreases-add_call
decreases-add_call l = 4 * most size-Expr l.parts.now + 2

abbrev pub decreases-add_parts : goal.decreases-add_parts
decreases-add_parts l = 4 * most size-Expr l.parts.now + 1

abbrev pub decreases-add_carried : goal.decreases-add_carried
decreases-add_carried l = 4 * part_size l.part.now + 1
