use Rattle.std.proofs.Common.{◌≡◌, ◌+◌, ◌*◌, max, take, map}
use denote.Param.Weighed.{most}
use Rattle.hume_model.specs.declared.core_tree.Expr.{Expr, size-Expr}
use Rattle.hume_model.specs.declared.core_tree.PatC.{PatC}
use Rattle.hume_model.proofs.Ranks.{arms_size}
use Rattle.union_laws.specs.Moving.{moved}
use Rattle.std.specs.Prelude.{IfOk}
use Rattle.net_union.proofs.expressions.+move_expression.Given as goal

abbrev pub decreases-move_expression : goal.decreases-move_expression
decreases-move_expression l = 4 * size-Expr l.e.now

abbrev pub decreases-move_prim : goal.decreases-move_prim
decreases-move_prim l = 4 * most size-Expr l.parts.now + 2

abbrev pub decreases-move_index : goal.decreases-move_index
decreases-move_index l = 4 * max (size-Expr l.vector.now) (size-Expr l.place.now) + 2

abbrev pub decreases-move_update : goal.decreases-move_update
decreases-move_update l = 4 * max (size-Expr l.vector.now) (max (size-Expr l.place.now) (size-Expr l.item.now)) + 2

abbrev pub decreases-move_if : goal.decreases-move_if
decreases-move_if l = 4 * max (size-Expr l.test.now) (max (size-Expr l.when_true.now) (size-Expr l.when_false.now)) + 2

abbrev pub decreases-move_case : goal.decreases-move_case
decreases-move_case l = 4 * max (size-Expr l.part.now) (arms_size l.arms.now) + 2

abbrev pub decreases-move_let : goal.decreases-move_let
decreases-move_let l = 4 * max (size-Expr l.part.now) (size-Expr l.body.now) + 2

abbrev pub decreases-move_part : goal.decreases-move_part
decreases-move_part l = 4 * size-Expr l.part.now + 1

abbrev pub decreases-move_parts : goal.decreases-move_parts
decreases-move_parts l = 4 * most size-Expr l.parts.now + 1

abbrev pub decreases-move_arms : goal.decreases-move_arms
decreases-move_arms l = 4 * arms_size l.arms.now + 1

abbrev pub invariant-move_parts-loop-part : goal.invariant-move_parts-loop-part
invariant-move_parts-loop-part l = IfOk l.higher (λ made. made ≡ map (moved l.fn.moves) (take l.part-index l.parts))

abbrev pub invariant-move_arms-loop-arm : goal.invariant-move_arms-loop-arm
invariant-move_arms-loop-arm l = IfOk l.higher (λ made. made ≡ map (λ (arm : PatC × Expr). (arm.0, moved l.fn.moves arm.1)) (take l.arm-index l.arms))
