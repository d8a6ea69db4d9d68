use Rattle.std.proofs.Common.{◌≡◌, ℕ, map, drop, sum}
use Rattle.hume_model.specs.declared.core_tree.EqC.{EqC}
use Rattle.box_costs.specs.declared.cost.Cost.{Cost}
use Rattle.box_costs.specs.Costs.{any_of}
use Rattle.box_costs.specs.PatternTests.{tests_of_all}
use Rattle.box_costs.specs.Bounds.{equation_way, bound_with}
use Rattle.space_costs.specs.inner.Standing.{IsCostOf, AreCostsOf, counted}
use Rattle.space_costs.proofs.functions.equations_cost.Given as goal

abbrev pub invariant-loop-i : goal.invariant-loop-i
invariant-loop-i l = record {
  tests : l.tests ≡ counted (sum (map (λ (equation : EqC). tests_of_all equation.pats) (drop l.i l.equations)));
  taken : (bounds : ℕ → Cost) → AreCostsOf l.called bounds → IsCostOf l.taken (any_of (map (λ (equation : EqC). (equation_way (bound_with bounds) equation).taken) (drop l.i l.equations)));
}
