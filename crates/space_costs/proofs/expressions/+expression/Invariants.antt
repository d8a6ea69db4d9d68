use Rattle.std.proofs.Common.{◌≡◌, ◌+◌, ◌*◌, ℕ, map, drop, sum}
use denote.Param.Weighed.{most}
use Rattle.hume_model.specs.declared.core_tree.Expr.{Expr, size-Expr}
use Rattle.hume_model.specs.declared.core_tree.PatC.{PatC}
use Rattle.hume_model.proofs.Ranks.{arms_size}
use Rattle.box_costs.specs.declared.cost.Cost.{Cost}
use Rattle.box_costs.specs.Costs.{in_order, any_of}
use Rattle.box_costs.specs.Bounds.{arm_way, bound_with}
use Rattle.space_costs.specs.inner.Standing.{IsCostOf, AreCostsOf, counted}
use Rattle.box_costs.specs.PatternTests.{tests_of}
use Rattle.space_costs.proofs.Sizes.{part_size}
use Rattle.space_costs.proofs.expressions.+expression.Given as goal

abbrev pub decreases-arms_cost : goal.decreases-arms_cost
decreases-arms_cost l = 3 * arms_size l.arms.now + 1

abbrev pub decreases-expression_cost : goal.decreases-expression_cost
decreases-expression_cost l = 3 * size-Expr l.e.now

abbrev pub decreases-object_cost : goal.decreases-object_cost
decreases-object_cost l = 3 * most size-Expr l.parts.now + 2

abbrev pub decreases-parts_cost : goal.decreases-parts_cost
decreases-parts_cost l = 3 * most size-Expr l.parts.now + 1

abbrev pub decreases-raise_cost : goal.decreases-raise_cost
decreases-raise_cost l = 3 * part_size l.part.now + 1

abbrev pub invariant-arms_cost-loop-i : goal.invariant-arms_cost-loop-i
invariant-arms_cost-loop-i l = record {
  tests : l.all_tests ≡ counted (sum (map (λ (arm : PatC × Expr). tests_of arm.0) (drop l.i l.arms)));
  taken : (bounds : ℕ → Cost) → AreCostsOf l.called bounds → IsCostOf l.taken (any_of (map (λ (arm : PatC × Expr). (arm_way 2 (arm.0, bound_with bounds arm.1)).taken) (drop l.i l.arms)));
}

abbrev pub invariant-parts_cost-loop-i : goal.invariant-parts_cost-loop-i
invariant-parts_cost-loop-i l = (bounds : ℕ → Cost) → AreCostsOf l.called bounds → IsCostOf l.cost (in_order (map (bound_with bounds) (drop l.i l.parts)))
