use Rattle.std.proofs.Common.{◌≡◌, ◌+◌, ◌*◌, max, map, drop, sum}
use denote.Param.Weighed.{most}
use Rattle.hume_model.specs.declared.core_tree.PatC.{PatC}
use Rattle.hume_model.specs.declared.core_tree.Res.{Res, size-Res}
use Rattle.box_costs.specs.Costs.{any_of}
use Rattle.box_costs.specs.PatternTests.{tests_of}
use Rattle.box_costs.specs.Bounds.{arm_way, result_bound}
use Rattle.space_costs.specs.inner.Standing.{IsCostOf, counted}
use Rattle.space_costs.proofs.results.+result.Given as goal

abbrev pub decreases-arms_cost : goal.decreases-arms_cost
decreases-arms_cost l = 2 * most (λ arm. max 0 (max (size-Res arm.1) 0)) l.arms.now + 1

abbrev pub decreases-result_cost : goal.decreases-result_cost
decreases-result_cost l = 2 * size-Res l.res.now

abbrev pub invariant-arms_cost-loop-i : goal.invariant-arms_cost-loop-i
invariant-arms_cost-loop-i l = record {
  tests : l.all_tests ≡ counted (sum (map (λ (arm : PatC × Res). tests_of arm.0) (drop l.i l.arms)));
  taken : IsCostOf l.taken (any_of (map (λ (arm : PatC × Res). (arm_way 0 (arm.0, result_bound l.core arm.1)).taken) (drop l.i l.arms)));
}
