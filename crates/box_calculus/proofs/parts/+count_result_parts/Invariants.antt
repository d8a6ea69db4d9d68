use Rattle.std.proofs.Common.{◌≡◌, drop, map}
use Rattle.std.specs.Prelude.{◌+◌, ◌*◌, max}
use Rattle.hume_model.specs.declared.core_tree.PatC.{PatC}
use Rattle.hume_model.specs.declared.core_tree.Res.{Res, size-Res}
use Rattle.calculus_laws.specs.Parts.{parts_in_arms, result_parts}
use Rattle.calculus_unfolding.proofs.Measures.{ways_size}
use Rattle.box_calculus.proofs.parts.+count_result_parts.Given as goal

abbrev pub decreases-count_result_parts : goal.decreases-count_result_parts
decreases-count_result_parts l = 4 * size-Res l.given.now

abbrev pub decreases-count_choice : goal.decreases-count_choice
decreases-count_choice l = 4 * max (size-Res l.when_true.now) (size-Res l.when_false.now) + 1

abbrev pub decreases-count_result_case : goal.decreases-count_result_case
decreases-count_result_case l = 4 * ways_size l.arms.now + 3

abbrev pub decreases-count_binding : goal.decreases-count_binding
decreases-count_binding l = 4 * size-Res l.body.now + 1

abbrev pub decreases-count_ways : goal.decreases-count_ways
decreases-count_ways l = 4 * ways_size l.arms.now + 2

abbrev pub invariant-count_ways-loop-arm : goal.invariant-count_ways-loop-arm
invariant-count_ways-loop-arm l =
    l.count + parts_in_arms (map (λ (arm : PatC × Res). (arm.0, result_parts arm.1)) (drop l.arm-index l.arms))
    ≡ parts_in_arms (map (λ (arm : PatC × Res). (arm.0, result_parts arm.1)) l.arms)
