-- A slot for each input, or for each output, of each node: it holds the first wire that ends there.
use Rattle.std.specs.Prelude.{◌≡◌, ℕ, suc, ◌<◌, Bool, List, [], ◌∷◌, length, take, map, replicate, Option, Some, None, if◌then◌else◌, slice_get, slice_set, slice_index_or}
use Rattle.std.specs.Option.{option_map, option_flatten, is_some, unwrap_or}
use Rattle.hume_base.specs.declared.rule.Rule.{Rule}
use Rattle.hume_base.specs.declared.rule.Rule.TheVariants.{C50, C51, C52, C53}
use Rattle.hume_model.specs.declared.core_tree.NodeC.{NodeC}
use Rattle.hume_model.specs.declared.core_tree.WireC.{WireC}
use Rattle.hume_model.specs.declared.core_tree.Core.{Core}
use Rattle.hume_model.specs.Wiring.{inputs_of, outputs_of, leads_to, comes_from}
use Rattle.hume_model.specs.WireEnds.{output_type, input_type}
use Rattle.hume_model.specs.WireRules.{NoWire, Differ, LacksInput, LacksOutput, RepeatsInput, RepeatsOutput}
use Rattle.wiring_check.specs.declared.side.Side.{Side}
use Rattle.wiring_check.specs.declared.side.Side.TheVariants.{Inputs, Outputs}

-- how many ports a node has on the side
abbrev pub ports_of : Side → NodeC → ℕ
ports_of Inputs node = inputs_of node
ports_of Outputs node = outputs_of node

-- the wire ends at the port of the node
abbrev pub ends_at : Side → ℕ → ℕ → WireC → Bool
ends_at Inputs = leads_to
ends_at Outputs = comes_from

-- the node and the port at which a wire ends
abbrev pub end_node : Side → WireC → ℕ
end_node Inputs wire = wire.to
end_node Outputs wire = wire.from

abbrev pub end_port : Side → WireC → ℕ
end_port Inputs wire = wire.to_port
end_port Outputs wire = wire.from_port

-- the rules on ports without a wire and on wires to taken ports
abbrev pub lack_rule : Side → Rule
lack_rule Inputs = C50
lack_rule Outputs = C52

abbrev pub repeat_rule : Side → Rule
repeat_rule Inputs = C51
repeat_rule Outputs = C53

-- what these rules are of
abbrev pub Lacks : Core → Side → ℕ → Type 0
Lacks core Inputs = LacksInput core
Lacks core Outputs = LacksOutput core

abbrev pub Repeats : Core → Side → ℕ → Type 0
Repeats core Inputs = RepeatsInput core
Repeats core Outputs = RepeatsOutput core

-- for each node a slot for each port: the number of a wire, or none
abbrev pub Rows : Type 0
Rows = List (List (Option ℕ))

-- the wire in the slot, if there is one
abbrev pub slot_in : Option (List (Option ℕ)) → ℕ → Option ℕ
slot_in None i = None
slot_in (Some row) i = option_flatten (slice_get row i)

abbrev pub slot : Rows → ℕ → ℕ → Option ℕ
slot rows n i = slot_in (slice_get rows n) i

-- there is such a slot
pub record HasSlot (rows : Rows) (n i : ℕ) : Type 0 where
  pub row : List (Option ℕ)
  pub there : slice_get rows n ≡ Some row
  pub within : i < length row

-- the wire put into the slot
abbrev pub with_wire : Rows → ℕ → ℕ → ℕ → Rows
with_wire rows n i w = slice_set rows n (slice_set (slice_index_or rows n []) i (Some w))

-- unless there is one already
abbrev pub with_first : Rows → ℕ → ℕ → ℕ → Rows
with_first rows n i w = if is_some (slot rows n i) then rows else with_wire rows n i w

-- slots without wires
abbrev pub empty_row : Side → NodeC → List (Option ℕ)
empty_row side node = replicate {A = Option ℕ} (ports_of side node) None

abbrev pub empty_rows : Side → List NodeC → Rows
empty_rows side nodes = map (empty_row side) nodes

-- the number of the first wire that passes the test
abbrev pub first_wire : (WireC → Bool) → List WireC → Option ℕ
first_wire test [] = None
first_wire test (wire ∷ wires) = if test wire then Some 0 else option_map suc (first_wire test wires)

-- there is a slot for each port
abbrev pub HasRows : Core → Side → Rows → Type 0
HasRows core side rows = (n i : ℕ) (node : NodeC) → slice_get core.nodes n ≡ Some node → i < ports_of side node → HasSlot rows n i

-- the node has such a port
pub record IsPort (core : Core) (side : Side) (n i : ℕ) : Type 0 where
  pub node : NodeC
  pub there : slice_get core.nodes n ≡ Some node
  pub within : i < ports_of side node

-- each port has a slot, and no other slots are there; a slot holds the first of the first so many wires that ends there
pub record AreFirst (core : Core) (side : Side) (count : ℕ) (rows : Rows) : Type 0 where
  pub slots : HasRows core side rows
  pub ports : (n i : ℕ) → HasSlot rows n i → IsPort core side n i
  pub each : (n i : ℕ) → slot rows n i ≡ first_wire (ends_at side n i) (take count core.wires)

-- the node has a port without a wire
pub record LacksPort (side : Side) (wires : List WireC) (n : ℕ) (node : NodeC) : Type 0 where
  pub port : ℕ
  pub within : port < ports_of side node
  pub none : NoWire (ends_at side n port) wires

-- the ends of the wire don't go together
pub record EndsDiffer (core : Core) (wire : WireC) : Type 0 where
  pub producer : NodeC
  pub from : slice_get core.nodes wire.from ≡ Some producer
  pub consumer : NodeC
  pub to : slice_get core.nodes wire.to ≡ Some consumer
  pub differ : Differ (output_type producer wire.from_port) (input_type consumer wire.to_port)

-- the wires in the slots, each of which has one
abbrev pub known_row : List (Option ℕ) → List ℕ
known_row row = map (λ (wire : Option ℕ). unwrap_or wire 0) row

abbrev pub known_rows : Rows → List (List ℕ)
known_rows rows = map known_row rows
