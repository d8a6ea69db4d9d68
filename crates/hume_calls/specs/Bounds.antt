-- Costs that are handed on with a core.
use Rattle.std.specs.Prelude.{List, None}
use Rattle.hume_base.specs.Least.{IsLeast}
use Rattle.hume_model.specs.declared.core_tree.Core.{Core}
use Rattle.hume_model.specs.WellFormed.{HasSoundFrame}
use Rattle.box_costs.specs.declared.cost.Cost.{Cost}
use Rattle.box_costs.specs.CostRules.{BreaksCosts}
use Rattle.space_costs.specs.NodeCosts.{AreCosts}

-- They are those of the core, whose frame is sound, and it breaks no limit on them.
pub record KeepsBounds (core : Core) (costs : List Cost) : Type 0 where
  pub frame : HasSoundFrame core
  pub are : AreCosts core costs
  pub within : IsLeast (BreaksCosts core) None
