use Rattle.std.proofs.Common.{◌≡◌, drop, map}
use Rattle.std.specs.Prelude.{◌+◌, ◌*◌, max}
use Rattle.std.specs.List.{sum}
use denote.Param.Weighed.{most}
use Rattle.hume_model.specs.declared.core_tree.Expr.{Expr, size-Expr}
use Rattle.hume_model.specs.declared.core_tree.PatC.{PatC}
use Rattle.hume_model.proofs.Ranks.{arms_size}
use Rattle.calculus_laws.specs.Parts.{expression_parts, parts_in_arms}
use Rattle.calculus_unfolding.proofs.Measures.{part_size}
use Rattle.box_calculus.proofs.parts.+count_parts.Given as goal

abbrev pub decreases-count_parts : goal.decreases-count_parts
decreases-count_parts l = 4 * size-Expr l.e.now

abbrev pub decreases-count_two : goal.decreases-count_two
decreases-count_two l = 4 * max (size-Expr l.first.now) (size-Expr l.second.now) + 1

abbrev pub decreases-count_three : goal.decreases-count_three
decreases-count_three l = 4 * max (size-Expr l.first.now) (max (size-Expr l.second.now) (size-Expr l.third.now)) + 2

abbrev pub decreases-count_case : goal.decreases-count_case
decreases-count_case l = 4 * max (size-Expr l.part.now) (arms_size l.arms.now) + 3

abbrev pub decreases-count_if_there : goal.decreases-count_if_there
decreases-count_if_there l = 4 * part_size l.part.now + 2

abbrev pub decreases-count_all : goal.decreases-count_all
decreases-count_all l = 4 * most size-Expr l.parts.now + 2

abbrev pub decreases-count_arms : goal.decreases-count_arms
decreases-count_arms l = 4 * arms_size l.arms.now + 2

abbrev pub invariant-count_all-loop-part : goal.invariant-count_all-loop-part
invariant-count_all-loop-part l = l.count + sum (map expression_parts (drop l.part-index l.parts)) ≡ sum (map expression_parts l.parts)

abbrev pub invariant-count_arms-loop-arm : goal.invariant-count_arms-loop-arm
invariant-count_arms-loop-arm l =
    l.count + parts_in_arms (map (λ (arm : PatC × Expr). (arm.0, expression_parts arm.1)) (drop l.arm-index l.arms))
    ≡ parts_in_arms (map (λ (arm : PatC × Expr). (arm.0, expression_parts arm.1)) l.arms)
