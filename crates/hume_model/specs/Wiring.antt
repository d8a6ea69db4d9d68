-- Which wires are a node's, and when each of its inputs and outputs has its one wire.
use Rattle.std.specs.Prelude.{◌≡◌, ℕ, ◌<◌, ◌==◌, Bool, true, ◌&&◌, List, length, Some, slice_get}
use Rattle.hume_model.specs.declared.core_tree.PortC.{PortC}
use Rattle.hume_model.specs.declared.core_tree.BoxC.{BoxC}
use Rattle.hume_model.specs.declared.core_tree.NodeC.{NodeC}
use Rattle.hume_model.specs.declared.core_tree.NodeC.TheVariants.{Rules, From, To}
use Rattle.hume_model.specs.declared.core_tree.WireC.{WireC}
use Rattle.hume_model.specs.declared.core_tree.Core.{Core}

-- how many inputs a node has, and how many outputs
abbrev pub inputs_of : NodeC → ℕ
inputs_of (Rules b) = length b.ins
inputs_of (From stream) = 0
inputs_of (To stream) = 1

-- how many outputs a node has
abbrev pub outputs_of : NodeC → ℕ
outputs_of (Rules b) = length b.outs
outputs_of (From stream) = 1
outputs_of (To stream) = 0

-- the wire leads to this input of the node
abbrev pub leads_to : ℕ → ℕ → WireC → Bool
leads_to node input wire = (wire.to == node) && (wire.to_port == input)

-- the wire comes from this output of the node
abbrev pub comes_from : ℕ → ℕ → WireC → Bool
comes_from node output wire = (wire.from == node) && (wire.from_port == output)

-- of the wires just that of the number passes the test
pub record IsTheWire (test : WireC → Bool) (wires : List WireC) (w : ℕ) : Type 0 where
  pub wire : WireC
  pub there : slice_get wires w ≡ Some wire
  pub passes : test wire ≡ true
  pub alone : (x : ℕ) (other : WireC) → slice_get wires x ≡ Some other → test other ≡ true → x ≡ w

-- one wire leads to each input of a node, and one comes from each output
pub record IsWired (core : Core) : Type 0 where
  pub inputs : (n input : ℕ) (node : NodeC) → slice_get core.nodes n ≡ Some node → input < inputs_of node
      → (w : ℕ) × IsTheWire (leads_to n input) core.wires w
  pub outputs : (n output : ℕ) (node : NodeC) → slice_get core.nodes n ≡ Some node → output < outputs_of node
      → (w : ℕ) × IsTheWire (comes_from n output) core.wires w

-- wires that meet in one place have one type, which is that of the box's input or output there
pub record WiresAgree (core : Core) : Type 0 where
  pub consumers : (w x : ℕ) (wire other : WireC) → slice_get core.wires w ≡ Some wire → slice_get core.wires x ≡ Some other
      → other.to ≡ wire.to → other.to_port ≡ wire.to_port → other.ty ≡ wire.ty
  pub producers : (w x : ℕ) (wire other : WireC) → slice_get core.wires w ≡ Some wire → slice_get core.wires x ≡ Some other
      → other.from ≡ wire.from → other.from_port ≡ wire.from_port → other.ty ≡ wire.ty
  pub inputs : (w : ℕ) (wire : WireC) (b : BoxC) (input : PortC) → slice_get core.wires w ≡ Some wire
      → slice_get core.nodes wire.to ≡ Some (Rules b) → slice_get b.ins wire.to_port ≡ Some input → wire.ty ≡ input.ty
  pub outputs : (w : ℕ) (wire : WireC) (b : BoxC) (output : PortC) → slice_get core.wires w ≡ Some wire
      → slice_get core.nodes wire.from ≡ Some (Rules b) → slice_get b.outs wire.from_port ≡ Some output → wire.ty ≡ output.ty
