use Rattle.std.proofs.Common.{◌+◌, ◌*◌, max}
use denote.Param.Weighed.{most}
use Rattle.hume_model.specs.declared.core_tree.Expr.{size-Expr}
use Rattle.hume_model.proofs.Ranks.{arms_size}
use Rattle.look_cores.proofs.Sizes.{part_size}
use Rattle.look_cores.proofs.gaps.+search_expression.Given as goal

abbrev pub decreases-search_arms : goal.decreases-search_arms
decreases-search_arms l = 6 * max (size-Expr l.part.now) (arms_size l.arms.now) + 4

abbrev pub decreases-matched_by_arms : goal.decreases-matched_by_arms
decreases-matched_by_arms l = 6 * size-Expr l.part.now + 3

abbrev pub decreases-search_expression : goal.decreases-search_expression
decreases-search_expression l = 6 * size-Expr l.e.now

abbrev pub decreases-search_parts : goal.decreases-search_parts
decreases-search_parts l = 6 * most size-Expr l.parts.now + 1

abbrev pub decreases-search_two : goal.decreases-search_two
decreases-search_two l = 6 * max (size-Expr l.first.now) (size-Expr l.second.now) + 1

abbrev pub decreases-search_raise : goal.decreases-search_raise
decreases-search_raise l = 6 * part_size l.part.now + 1

abbrev pub decreases-judge_case : goal.decreases-judge_case
decreases-judge_case l = 6 * size-Expr l.part.now + 2

abbrev pub decreases-known_quietly : goal.decreases-known_quietly
decreases-known_quietly l = 6 * size-Expr l.part.now + 1
