use Rattle.std.proofs.Common.{map, drop}
use Rattle.box_costs.specs.Costs.{in_order}
use Rattle.box_costs.specs.Bounds.{expression_bound, given_outs}
use Rattle.space_costs.specs.inner.Standing.{IsCostOf}
use Rattle.space_costs.proofs.results.outs_cost.Given as goal

abbrev pub invariant-loop-i : goal.invariant-loop-i
invariant-loop-i l = IsCostOf l.cost (in_order (map (expression_bound l.core) (given_outs (drop l.i l.outs))))
