use Rattle.std.proofs.Common.{map, drop}
use Rattle.box_costs.specs.Costs.{any_of}
use Rattle.box_costs.specs.Bounds.{handler_if_raised}
use Rattle.space_costs.specs.inner.Standing.{IsCostOf}
use Rattle.space_costs.proofs.boxes.handlers_cost.Given as goal

abbrev pub invariant-loop-i : goal.invariant-loop-i
invariant-loop-i l = IsCostOf l.cost (any_of (map (handler_if_raised l.core l.outcome) (drop l.i l.handlers)))
