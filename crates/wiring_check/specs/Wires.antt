-- The wires of each node, position by position, and when they are those of a core.
use Rattle.std.specs.Prelude.{◌≡◌, ⊤, ℕ, ◌<◌, Bool, List, Option, Some, None, slice_get}
use Rattle.hume_model.specs.declared.core_tree.NodeC.{NodeC}
use Rattle.hume_model.specs.declared.core_tree.WireC.{WireC}
use Rattle.hume_model.specs.declared.core_tree.Core.{Core}
use Rattle.hume_model.specs.Wiring.{inputs_of, outputs_of, leads_to, comes_from, IsTheWire}
use Rattle.hume_model.specs.Declarations.{IsRefusal}
use Rattle.hume_model.specs.WireRules.{BreaksWires}
use Rattle.wiring_check.specs.declared.check.WireError.{WireError}
use Rattle.wiring_check.specs.declared.check.WireError.TheVariants.{Refused, NoMemory}

-- for each node the numbers of the wires of its inputs, and of its outputs
pub record Wires : Type 0 where
  pub inputs : List (List ℕ)
  pub outputs : List (List ℕ)

-- the wire at a position of a node, if there is such a position
abbrev pub wire_in : Option (List ℕ) → ℕ → Option ℕ
wire_in None position = None
wire_in (Some wires) position = slice_get wires position

-- the wire at a position of the node of that number, if there is such a position
abbrev pub wire_at : List (List ℕ) → ℕ → ℕ → Option ℕ
wire_at wires node position = wire_in (slice_get wires node) position

-- there is such a position
pub record HasPosition (wires : List (List ℕ)) (node position : ℕ) : Type 0 where
  pub wire : ℕ
  pub there : wire_at wires node position ≡ Some wire

-- each node has a position for each of its ports, and at each stands the wire that ends at the port
pub record AreTheWires (core : Core) (ports : NodeC → ℕ) (ends_at : ℕ → ℕ → WireC → Bool) (wires : List (List ℕ)) : Type 0 where
  pub positions : (n i : ℕ) (node : NodeC) → slice_get core.nodes n ≡ Some node → i < ports node → HasPosition wires n i
  pub each : (n i w : ℕ) → wire_at wires n i ≡ Some w → IsTheWire (ends_at n i) core.wires w

-- the wiring is that of the core
pub record IsWiringOf (core : Core) (wiring : Wires) : Type 0 where
  pub inputs : AreTheWires core inputs_of leads_to wiring.inputs
  pub outputs : AreTheWires core outputs_of comes_from wiring.outputs

-- the least of the rules that the wires break is refused, or memory is wanting
abbrev pub IsWireError : Core → WireError → Type 0
IsWireError core (Refused refusal) = IsRefusal core (BreaksWires core) refusal
IsWireError core NoMemory = ⊤
