use Rattle.std.proofs.Common.{◌+◌, ◌*◌, max}
use denote.Param.Weighed.{most}
use Rattle.hume_model.specs.declared.core_tree.Expr.{size-Expr}
use Rattle.hume_model.proofs.Ranks.{arms_size}
use Rattle.box_compile.proofs.Measures.{part_size}
use Rattle.box_compile.proofs.sizes.+expression_words.Given as goal

abbrev pub decreases-arms_words : goal.decreases-arms_words
decreases-arms_words l = 4 * arms_size l.arms.now + 1

abbrev pub decreases-expression_words : goal.decreases-expression_words
decreases-expression_words l = 4 * size-Expr l.e.now

abbrev pub decreases-parts_words : goal.decreases-parts_words
decreases-parts_words l = 4 * most size-Expr l.parts.now + 1

abbrev pub decreases-raise_words : goal.decreases-raise_words
decreases-raise_words l = 4 * part_size l.part.now + 1

abbrev pub decreases-two_words : goal.decreases-two_words
decreases-two_words l = 4 * max (size-Expr l.first.now) (size-Expr l.second.now) + 1

abbrev pub decreases-three_words : goal.decreases-three_words
decreases-three_words l = 4 * max (size-Expr l.first.now) (max (size-Expr l.second.now) (size-Expr l.third.now)) + 2

abbrev pub decreases-case_words : goal.decreases-case_words
decreases-case_words l = 4 * max (size-Expr l.part.now) (arms_size l.arms.now) + 2
