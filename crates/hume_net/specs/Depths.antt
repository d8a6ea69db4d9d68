-- How many values the wires of a state hold.
use Rattle.std.specs.Prelude.{◌≡◌, ◌≤◌, ℕ, length, Some, slice_get}
use Rattle.hume_model.specs.declared.core_tree.WireC.{WireC}
use Rattle.hume_model.specs.declared.core_tree.Core.{Core}
use Rattle.hume_net.specs.declared.state.State.{State}
use Rattle.hume_net.specs.Sides.{on_wire}

-- each wire may hold a value at least
abbrev pub WiresHaveDepth : Core → Type 0
WiresHaveDepth core = (w : ℕ) (wire : WireC) → slice_get core.wires w ≡ Some wire → 1 ≤ wire.depth

-- no wire holds more values than its depth
abbrev pub IsWithinDepths : Core → State → Type 0
IsWithinDepths core state = (w : ℕ) (wire : WireC) → slice_get core.wires w ≡ Some wire → length (on_wire state w) ≤ wire.depth
