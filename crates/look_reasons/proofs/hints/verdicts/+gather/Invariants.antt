use Rattle.std.proofs.Common.{◌+◌, ◌*◌, max}
use denote.Param.Weighed.{most}
use Rattle.hume_model.specs.declared.core_tree.Expr.{size-Expr}
use Rattle.hume_model.proofs.Ranks.{arms_size}
use Rattle.look_reasons.proofs.hints.verdicts.+gather.Given as goal

abbrev pub decreases-gather : goal.decreases-gather
decreases-gather l = 2 * size-Expr l.exp.now

abbrev pub decreases-gather_all : goal.decreases-gather_all
decreases-gather_all l = 2 * most size-Expr l.parts.now + 1

abbrev pub decreases-gather_arms : goal.decreases-gather_arms
decreases-gather_arms l = 2 * arms_size l.arms.now + 1

abbrev pub decreases-gather_three : goal.decreases-gather_three
decreases-gather_three l = 2 * max (size-Expr l.first.now) (max (size-Expr l.second.now) (size-Expr l.third.now)) + 1
