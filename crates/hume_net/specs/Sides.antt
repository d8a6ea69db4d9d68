-- What a node's half step sees of a state, and what state the half steps of all nodes make together.
use Rattle.std.specs.Prelude.{ℕ, nat_lt, Bool, true, List, [], map, length, Option, None, Some, slice_get}
use Rattle.std.specs.List.{range_with_len, position}
use Rattle.std.specs.Option.{option_flatten, unwrap_or}
use Rattle.hume_base.specs.declared.types.Value.{Value}
use Rattle.hume_model.specs.declared.core_tree.NodeC.{NodeC}
use Rattle.hume_model.specs.declared.core_tree.WireC.{WireC}
use Rattle.hume_model.specs.declared.core_tree.Core.{Core}
use Rattle.hume_model.specs.Wiring.{inputs_of, outputs_of, leads_to, comes_from}
use Rattle.hume_net.specs.declared.state.Part.{Part}
use Rattle.hume_net.specs.declared.state.State.{State}
use Rattle.hume_net.specs.declared.state.HalfStep.{HalfStep}
use Rattle.hume_net.specs.HalfSteps.{execute, super_step, idle}

-- what is said of each number below a bound, in order
abbrev pub numbered : {X : Type 0} → ℕ → (ℕ → X) → List X
numbered bound says = map says (range_with_len 0 bound)

-- the values on a wire, the oldest first
abbrev pub on_wire : State → ℕ → List Value
on_wire state wire = unwrap_or (slice_get state.wires wire) []

-- what belongs to a node
abbrev pub part_of : State → ℕ → Part
part_of state node = record {
  pending = option_flatten (slice_get state.pending node);
  order = unwrap_or (slice_get state.orders node) [];
  coming = unwrap_or (slice_get state.coming node) [];
  taken = unwrap_or (slice_get state.taken node) [];
}

-- the values on a wire that may be missing
abbrev pub on_found : State → Option ℕ → List Value
on_found state None = []
on_found state (Some wire) = on_wire state wire

-- a wire has room where it holds fewer values than its depth
abbrev pub has_room : Option WireC → List Value → Bool
has_room None values = true
has_room (Some wire) values = nat_lt (length values) wire.depth

-- whether the wire has room; what is asserted where none is found is lost
abbrev pub room_on : Core → State → Option ℕ → Bool
room_on core state None = true
room_on core state (Some wire) = has_room (slice_get core.wires wire) (on_wire state wire)

-- the number of the wire that leads to an input of a node, and of the one that comes from an output
abbrev pub wire_to : Core → ℕ → ℕ → Option ℕ
wire_to core node input = position (leads_to node input) core.wires

-- the number of the wire that comes from an output of a node
abbrev pub wire_from : Core → ℕ → ℕ → Option ℕ
wire_from core node output = position (comes_from node output) core.wires

-- the values on the wires of a node's inputs, those on the wires of its outputs, and which of these have room
abbrev pub inputs : Core → State → ℕ → NodeC → List (List Value)
inputs core state number node = numbered (inputs_of node) (λ input. on_found state (wire_to core number input))

-- the values on the wires of a node's outputs
abbrev pub outputs : Core → State → ℕ → NodeC → List (List Value)
outputs core state number node = numbered (outputs_of node) (λ output. on_found state (wire_from core number output))

-- which of the wires of a node's outputs have room
abbrev pub rooms : Core → State → ℕ → NodeC → List Bool
rooms core state number node = numbered (outputs_of node) (λ output. room_on core state (wire_from core number output))

-- what the node of a number makes of a state in its execute step; nothing changes where there is none
abbrev pub executed_at : Core → State → ℕ → Option NodeC → HalfStep
executed_at core state number None = idle (part_of state number) []
executed_at core state number (Some node) = execute core node (part_of state number) (inputs core state number node)

-- what a node makes of a state in its execute step
abbrev pub executed : Core → State → ℕ → HalfStep
executed core state number = executed_at core state number (slice_get core.nodes number)

-- what the node of a number makes of a state in its super step; nothing changes where there is none
abbrev pub stepped_at : Core → State → ℕ → Option NodeC → HalfStep
stepped_at core state number None = idle (part_of state number) []
stepped_at core state number (Some node) = super_step node (part_of state number) (rooms core state number node) (outputs core state number node)

-- what a node makes of a state in its super step
abbrev pub stepped : Core → State → ℕ → HalfStep
stepped core state number = stepped_at core state number (slice_get core.nodes number)

-- what is said of each node's number
abbrev pub each_node : {X : Type 0} → Core → (ℕ → X) → List X
each_node core says = numbered (length core.nodes) says

-- what a half step leaves on the wire at a place of its side
abbrev pub left_by : HalfStep → ℕ → List Value
left_by half place = unwrap_or (slice_get half.side place) []

-- what the half step of a node leaves at a place of its side; nothing where there is no node
abbrev pub side_at : Option HalfStep → ℕ → List Value
side_at None place = []
side_at (Some half) place = left_by half place

-- what the half step of a node leaves there
abbrev pub left_on : List HalfStep → ℕ → ℕ → List Value
left_on halves node place = side_at (slice_get halves node) place

-- a wire after an execute phase is as its consumer leaves it
abbrev pub consumed : Core → List HalfStep → List (List Value)
consumed core halves = map (λ wire. left_on halves wire.to wire.to_port) core.wires

-- a wire after a super phase is as its producer leaves it
abbrev pub produced : Core → List HalfStep → List (List Value)
produced core halves = map (λ wire. left_on halves wire.from wire.from_port) core.wires

-- the state in which each node has its part, and the wires are these
abbrev pub gathered : List HalfStep → List (List Value) → State
gathered halves wires = record {
  wires = wires;
  pending = map (λ half. half.part.pending) halves;
  orders = map (λ half. half.part.order) halves;
  coming = map (λ half. half.part.coming) halves;
  taken = map (λ half. half.part.taken) halves;
}
