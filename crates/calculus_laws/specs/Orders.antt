-- States in which each box that isn't fair tries its rules as they are written.
use Rattle.std.specs.Prelude.{◌≡◌, ℕ, false, Some, slice_get}
use Rattle.hume_model.specs.declared.core_tree.BoxC.{BoxC}
use Rattle.hume_model.specs.declared.core_tree.NodeC.TheVariants.{Rules}
use Rattle.hume_model.specs.declared.core_tree.Core.{Core}
use Rattle.hume_net.specs.declared.state.State.{State}
use Rattle.hume_net.specs.Sides.{part_of}
use Rattle.hume_net.specs.Start.{written_order}

-- The order of a box that isn't fair is the written one. No superstep changes this, and a net starts so.
pub record HasWrittenOrders (core : Core) (state : State) : Type 0 where
  pub written : (n : ℕ) (b : BoxC) → slice_get core.nodes n ≡ Some (Rules b) → b.fair ≡ false → (part_of state n).order ≡ written_order (Rules b)
