use Rattle.std.proofs.Common.{◌+◌, ◌*◌}
use denote.Param.Weighed.{most}
use Rattle.hume_model.specs.declared.core_tree.PatC.{PatC}
use Rattle.hume_model.specs.declared.core_tree.Expr.{Expr, size-Expr}
use Rattle.hume_model.specs.Raising.{raises_with}
use Rattle.hume_model.proofs.Ranks.{arms_size}
use Rattle.hume_exceptions.specs.Sets.{called_by}
use Rattle.hume_exceptions.proofs.SetSteps.{HasFirst}
use Rattle.hume_exceptions.proofs.expressions.+expression.Given as goal

abbrev pub decreases-arms_set : goal.decreases-arms_set
decreases-arms_set l = 2 * arms_size l.arms.now + 1

abbrev pub decreases-expression_set : goal.decreases-expression_set
decreases-expression_set l = 2 * size-Expr l.e.now

abbrev pub decreases-parts_set : goal.decreases-parts_set
decreases-parts_set l = 2 * most size-Expr l.parts.now + 1

abbrev pub invariant-arms_set-loop-arm : goal.invariant-arms_set-loop-arm
invariant-arms_set-loop-arm l = HasFirst (λ exn (arm : PatC × Expr). raises_with l.types (called_by l.called exn) exn arm.1) l.arms l.set l.arm-index

abbrev pub invariant-parts_set-loop-part : goal.invariant-parts_set-loop-part
invariant-parts_set-loop-part l = HasFirst (λ exn. raises_with l.types (called_by l.called exn) exn) l.parts l.set l.part-index
