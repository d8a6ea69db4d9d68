use Rattle.std.proofs.Common.{map, drop}
use Rattle.box_costs.specs.Costs.{any_of}
use Rattle.box_costs.specs.Bounds.{rule_bound}
use Rattle.space_costs.specs.inner.Standing.{IsCostOf}
use Rattle.space_costs.proofs.boxes.box_cost.Given as goal

abbrev pub invariant-loop-i : goal.invariant-loop-i
invariant-loop-i l = IsCostOf l.cost (any_of (map (rule_bound l.core l.b) (drop l.i l.rules)))
