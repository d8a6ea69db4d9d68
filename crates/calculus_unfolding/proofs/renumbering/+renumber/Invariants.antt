use Rattle.std.proofs.Common.{◌≡◌, map, take}
use Rattle.hume_model.specs.declared.core_tree.Expr.{Expr}
use Rattle.hume_model.specs.declared.core_tree.PatC.{PatC}
use Rattle.calculus_laws.specs.Unfolding.{renumbered}
use Rattle.calculus_unfolding.specs.inner.Numbers.{new_number}
use Rattle.std.specs.Prelude.{IfOk, ◌+◌, ◌*◌, max}
use denote.Param.Weighed.{most}
use Rattle.hume_model.specs.declared.core_tree.Expr.{size-Expr}
use Rattle.hume_model.proofs.Ranks.{arms_size}
use Rattle.calculus_unfolding.proofs.Measures.{part_size}
use Rattle.calculus_unfolding.proofs.renumbering.+renumber.Given as goal

abbrev pub decreases-renumber : goal.decreases-renumber
decreases-renumber l = 4 * size-Expr l.e.now

abbrev pub decreases-renumber_object : goal.decreases-renumber_object
decreases-renumber_object l = 4 * most size-Expr l.parts.now + 2

abbrev pub decreases-renumber_tuple : goal.decreases-renumber_tuple
decreases-renumber_tuple l = 4 * most size-Expr l.parts.now + 2

abbrev pub decreases-renumber_vector : goal.decreases-renumber_vector
decreases-renumber_vector l = 4 * most size-Expr l.parts.now + 2

abbrev pub decreases-renumber_operation : goal.decreases-renumber_operation
decreases-renumber_operation l = 4 * most size-Expr l.parts.now + 2

abbrev pub decreases-renumber_call : goal.decreases-renumber_call
decreases-renumber_call l = 4 * most size-Expr l.parts.now + 2

abbrev pub decreases-renumber_index : goal.decreases-renumber_index
decreases-renumber_index l = 4 * max (size-Expr l.vector.now) (size-Expr l.place.now) + 2

abbrev pub decreases-renumber_update : goal.decreases-renumber_update
decreases-renumber_update l = 4 * max (size-Expr l.vector.now) (max (size-Expr l.place.now) (size-Expr l.item.now)) + 2

abbrev pub decreases-renumber_choice : goal.decreases-renumber_choice
decreases-renumber_choice l = 4 * max (size-Expr l.test.now) (max (size-Expr l.when_true.now) (size-Expr l.when_false.now)) + 2

abbrev pub decreases-renumber_case : goal.decreases-renumber_case
decreases-renumber_case l = 4 * max (size-Expr l.part.now) (arms_size l.arms.now) + 2

abbrev pub decreases-renumber_binding : goal.decreases-renumber_binding
decreases-renumber_binding l = 4 * max (size-Expr l.part.now) (size-Expr l.body.now) + 2

abbrev pub decreases-renumber_raise : goal.decreases-renumber_raise
decreases-renumber_raise l = 4 * part_size l.part.now + 3

abbrev pub decreases-renumber_arms : goal.decreases-renumber_arms
decreases-renumber_arms l = 4 * arms_size l.arms.now + 1

abbrev pub decreases-renumber_if_there : goal.decreases-renumber_if_there
decreases-renumber_if_there l = 4 * part_size l.part.now + 2

abbrev pub decreases-renumber_part : goal.decreases-renumber_part
decreases-renumber_part l = 4 * size-Expr l.e.now + 1

abbrev pub decreases-renumber_parts : goal.decreases-renumber_parts
decreases-renumber_parts l = 4 * most size-Expr l.parts.now + 1

abbrev pub invariant-renumber_parts-loop-part : goal.invariant-renumber_parts-loop-part
invariant-renumber_parts-loop-part l = IfOk l.news (λ made. made ≡ map (renumbered (new_number l.numbers)) (take l.part-index l.parts))

abbrev pub invariant-renumber_arms-loop-arm : goal.invariant-renumber_arms-loop-arm
invariant-renumber_arms-loop-arm l =
    IfOk l.news (λ made. made ≡ map (λ (arm : PatC × Expr). (arm.0, renumbered (new_number l.numbers) arm.1)) (take l.arm-index l.arms))
