-- When costs are those of a core, and why there may be none.
use Rattle.std.specs.Prelude.{◌≡◌, ⊤, List, map}
use Rattle.hume_model.specs.declared.core_tree.Core.{Core}
use Rattle.hume_model.specs.Declarations.{IsRefusal}
use Rattle.box_costs.specs.declared.cost.Cost.{Cost}
use Rattle.box_costs.specs.CostRules.{node_bound, BreaksCosts}
use Rattle.space_costs.specs.declared.check.CostError.{CostError}
use Rattle.space_costs.specs.declared.check.CostError.TheVariants.{Refused, NoMemory}

-- the costs are the bounds of the core's nodes, in the order of their numbers
abbrev pub AreCosts : Core → List Cost → Type 0
AreCosts core costs = costs ≡ map (node_bound core) core.nodes

-- the least of the rules that the bounds break is refused, or memory is wanting
abbrev pub IsCostError : Core → CostError → Type 0
IsCostError core (Refused refusal) = IsRefusal core (BreaksCosts core) refusal
IsCostError core NoMemory = ⊤
