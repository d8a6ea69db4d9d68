-- What a run takes, against the bounds of its boxes.
use Rattle.std.specs.Prelude.{◌≡◌, ℕ, List, Some, slice_get}
use Rattle.hume_base.specs.declared.types.Value.{Value}
use Rattle.hume_model.specs.declared.core_tree.BoxC.{BoxC}
use Rattle.hume_model.specs.declared.core_tree.Core.{Core}
use Rattle.hume_model.specs.declared.core_tree.NodeC.TheVariants.{Rules}
use Rattle.hume_net.specs.Lockstep.{lockstep}
use Rattle.hume_net.specs.Start.{start}
use Rattle.box_costs.specs.Bounds.{box_bound}
use Rattle.box_costs.specs.Costs.{IsAtMost}
use Rattle.net_costs.specs.Steps.{peaks, step_spent}

-- In a run to which these values come no execute step of a box takes more than the bound of the box, and no peak is greater.
pub record StaysInBounds (core : Core) (coming : List (List Value)) : Type 0 where
  pub each_step : (k n : ℕ) (b : BoxC) → slice_get core.nodes n ≡ Some (Rules b)
      → IsAtMost (step_spent core (lockstep core (start core coming) k) n) (box_bound core b)
  pub each_peak : (k n : ℕ) (b : BoxC) → slice_get core.nodes n ≡ Some (Rules b) → IsAtMost (peaks core (start core coming) k n) (box_bound core b)
