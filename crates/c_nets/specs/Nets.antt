-- The wires of a net, as the objects at their inputs.
use Rattle.std.specs.Prelude.{ℕ, ◌==◌, ◌&&◌, Bool, ◌++◌, Option, Some, None, find, codes, slice_get}
use Rattle.hume_model.specs.declared.core_tree.BoxC.{BoxC}
use Rattle.hume_model.specs.declared.core_tree.PortC.{PortC}
use Rattle.hume_model.specs.declared.core_tree.StreamC.{StreamC}
use Rattle.hume_model.specs.declared.core_tree.WireC.{WireC}
use Rattle.hume_model.specs.declared.core_tree.NodeC.{NodeC}
use Rattle.hume_model.specs.declared.core_tree.NodeC.TheVariants as node
use Rattle.hume_model.specs.declared.core_tree.Core.{Core}
use Rattle.c_tree.specs.declared.tree.CExp.{CExp}
use Rattle.c_tree.specs.declared.tree.CExp.TheVariants as exp
use Rattle.c_names.specs.declared.names.Names.{Names}
use Rattle.c_names.specs.Names.{inner}
use Rattle.c_nets.specs.declared.inlets.Inlet.{Inlet}

-- whether the wire leads to an input of a node
abbrev pub leads_to : ℕ → ℕ → WireC → Bool
leads_to number port wire = (wire.to == number) && (wire.to_port == port)

-- whether the wire starts at an output of a node
abbrev pub starts_at : ℕ → ℕ → WireC → Bool
starts_at number port wire = (wire.from == number) && (wire.from_port == port)

-- the wire that leads to an input of a node
abbrev pub wire_to : Core → ℕ → ℕ → Option WireC
wire_to core number port = find (leads_to number port) core.wires

-- the wire that starts at an output of a node
abbrev pub wire_from : Core → ℕ → ℕ → Option WireC
wire_from core number port = find (starts_at number port) core.wires

abbrev pub inlet_at : CExp → ℕ → Inlet
inlet_at object depth = record { object = object; depth = depth }

-- the object of a box
abbrev pub box_object : Names → BoxC → CExp
box_object names b = exp.Name (inner names (codes "b_") b.name)

abbrev pub input_of : CExp → Option PortC → CExp
input_of whole None = whole
input_of whole (Some port) = exp.Member whole (codes "i_" ++ port.name)

-- the input of a box that a wire leads to
abbrev pub box_inlet : Names → BoxC → ℕ → WireC → Inlet
box_inlet names b port wire = inlet_at (input_of (box_object names b) (slice_get b.ins port)) wire.depth

-- the object of an output stream
abbrev pub stream_object : Names → StreamC → CExp
stream_object names stream = exp.Name (inner names (codes "s_") stream.name)

-- the input of an output stream that a wire leads to
abbrev pub stream_inlet : Names → StreamC → WireC → Inlet
stream_inlet names stream wire = inlet_at (stream_object names stream) wire.depth

abbrev pub target_at : Names → WireC → Option NodeC → Option Inlet
target_at names wire (Some (node.Rules b)) = Some (box_inlet names b wire.to_port wire)
target_at names wire (Some (node.To stream)) = Some (stream_inlet names stream wire)
target_at names wire _ = None

-- the input that a wire leads to
abbrev pub target : Core → Names → WireC → Option Inlet
target core names wire = target_at names wire (slice_get core.nodes wire.to)

abbrev pub target_of_found : Core → Names → Option WireC → Option Inlet
target_of_found core names None = None
target_of_found core names (Some wire) = target core names wire

-- the input to which the wire at an output of a node leads
abbrev pub target_of : Core → Names → ℕ → ℕ → Option Inlet
target_of core names number port = target_of_found core names (wire_from core number port)

abbrev pub input_found : Names → BoxC → ℕ → Option WireC → Option Inlet
input_found names b place None = None
input_found names b place (Some wire) = Some (box_inlet names b place wire)

-- the input of a box at a place, if a wire leads to it
abbrev pub input_at : Core → Names → ℕ → BoxC → ℕ → Option Inlet
input_at core names number b place = input_found names b place (wire_to core number place)
