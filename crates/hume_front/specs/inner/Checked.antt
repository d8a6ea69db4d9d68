-- What a core breaks.
use Rattle.hume_base.specs.declared.finding.Finding.{Finding}
use Rattle.hume_model.specs.declared.core_tree.Core.{Core}
use Rattle.hume_model.specs.WireRules.{BreaksWires}
use Rattle.hume_model.specs.HandlerRules.{BreaksHandlers}
use Rattle.box_costs.specs.CostRules.{BreaksCosts}

-- the rules on its wires, on exceptions, and on what its boxes may take
pub data BreaksCore (core : Core) (f : Finding) : Type 0 where
  wires : BreaksWires core f → BreaksCore core f
  handlers : BreaksHandlers core f → BreaksCore core f
  costs : BreaksCosts core f → BreaksCore core f
