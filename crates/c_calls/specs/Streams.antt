-- The objects of boxes and output streams, and the call that makes the net as it is at first.
use Rattle.std.specs.Prelude.{ℕ, ◌+◌, List, [], ◌∷◌, ◌++◌, Option, Some, None, codes}
use Rattle.hume_model.specs.declared.core_tree.StreamC.{StreamC}
use Rattle.hume_model.specs.declared.core_tree.WireC.{WireC}
use Rattle.hume_model.specs.declared.core_tree.NodeC.{NodeC}
use Rattle.hume_model.specs.declared.core_tree.NodeC.TheVariants as node
use Rattle.hume_model.specs.declared.core_tree.Core.{Core}
use Rattle.c_tree.specs.declared.tree.CStm.{CStm}
use Rattle.c_tree.specs.declared.tree.CItem.{CItem}
use Rattle.c_tree.specs.declared.tree.CItem.TheVariants as item
use Rattle.c_names.specs.Names.{inner}
use Rattle.c_types.specs.Gathered.{Gathered, c_type}
use Rattle.c_nets.specs.Inlets.{inlet_members}
use Rattle.c_nets.specs.Nets.{stream_inlet, wire_to}
use Rattle.c_nets.specs.Objects.{box_item, box_start, start}
use Rattle.c_calls.specs.Steps.{call_function}

-- the object of a box
abbrev pub box_items : Gathered → Core → ℕ → NodeC → List CItem
box_items all core number (node.Rules b) = box_item all core number b ∷ []
box_items all core number _ = []

-- the objects of the boxes among the nodes from a number on
abbrev pub box_objects : Gathered → Core → ℕ → List NodeC → List CItem
box_objects all core number [] = []
box_objects all core number (one ∷ nodes) = box_items all core number one ++ box_objects all core (number + 1) nodes

abbrev pub stream_items : Gathered → StreamC → Option WireC → List CItem
stream_items all stream None = []
stream_items all stream (Some wire) =
    item.StructObject (inlet_members (c_type all wire.ty) wire.depth) (inner all.names (codes "s_") stream.name) ∷ []

-- the object of an output stream: the wire that leads to it
abbrev pub node_items : Gathered → Core → ℕ → NodeC → List CItem
node_items all core number (node.To stream) = stream_items all stream (wire_to core number 0)
node_items all core number _ = []

-- the objects of the output streams among the nodes from a number on
abbrev pub stream_objects : Gathered → Core → ℕ → List NodeC → List CItem
stream_objects all core number [] = []
stream_objects all core number (one ∷ nodes) = node_items all core number one ++ stream_objects all core (number + 1) nodes

-- the objects of the boxes, and of the output streams
abbrev pub object_items : Gathered → Core → List CItem
object_items all core = box_objects all core 0 core.nodes ++ stream_objects all core 0 core.nodes

abbrev pub stream_start : Gathered → StreamC → Option WireC → List CStm
stream_start all stream None = []
stream_start all stream (Some wire) = start all (stream_inlet all.names stream wire) wire.ty wire.initial

-- a node as it is at first
abbrev pub node_start : Gathered → Core → ℕ → NodeC → List CStm
node_start all core number (node.Rules b) = box_start all core number b
node_start all core number (node.From stream) = []
node_start all core number (node.To stream) = stream_start all stream (wire_to core number 0)

-- of the nodes from a number on
abbrev pub nodes_start : Gathered → Core → ℕ → List NodeC → List CStm
nodes_start all core number [] = []
nodes_start all core number (one ∷ nodes) = node_start all core number one ++ nodes_start all core (number + 1) nodes

abbrev pub init_function : Gathered → Core → CItem
init_function all core = call_function all.names (codes "_init") (nodes_start all core 0 core.nodes)
