-- Which numbers are those of streams, and whether a state has a part for each node.
use Rattle.std.specs.Prelude.{◌≡◌, ℕ, ⊤, length, Option, Some, slice_get}
use Rattle.hume_model.specs.declared.core_tree.NodeC.{NodeC}
use Rattle.hume_model.specs.declared.core_tree.NodeC.TheVariants.{From, To}
use Rattle.hume_model.specs.declared.core_tree.Core.{Core}
use Rattle.hume_net.specs.declared.state.State.{State}

abbrev pub IsInput : Option NodeC → Type 0
IsInput (Some (From stream)) = ⊤
IsInput _ = ⊥

abbrev pub IsOutput : Option NodeC → Type 0
IsOutput (Some (To stream)) = ⊤
IsOutput _ = ⊥

-- the node is an input stream
abbrev pub IsInputStream : Core → ℕ → Type 0
IsInputStream core node = IsInput (slice_get core.nodes node)

-- the node is an output stream
abbrev pub IsOutputStream : Core → ℕ → Type 0
IsOutputStream core node = IsOutput (slice_get core.nodes node)

-- each node has its values to come and those that it has taken
pub record HasParts (core : Core) (state : State) : Type 0 where
  pub coming : length state.coming ≡ length core.nodes
  pub taken : length state.taken ≡ length core.nodes
