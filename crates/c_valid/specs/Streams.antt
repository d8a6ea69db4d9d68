-- The functions that other files call: whether an object holds a value of an input stream's type. A stream of whose type each object
-- holds a value has none.
use Rattle.std.specs.Prelude.{ℕ, ◌+◌, Bool, true, false, List, [], ◌∷◌, ◌++◌, Option, Some, None, codes}
use Rattle.hume_base.specs.declared.types.Ty.{Ty}
use Rattle.hume_model.specs.declared.core_tree.StreamC.{StreamC}
use Rattle.hume_model.specs.declared.core_tree.WireC.{WireC}
use Rattle.hume_model.specs.declared.core_tree.NodeC.{NodeC}
use Rattle.hume_model.specs.declared.core_tree.NodeC.TheVariants as node
use Rattle.hume_model.specs.declared.core_tree.Core.{Core}
use Rattle.c_tree.specs.declared.tree.Linkage.TheVariants.{External}
use Rattle.c_tree.specs.declared.tree.CExp.{CExp}
use Rattle.c_tree.specs.declared.tree.CHead.{CHead}
use Rattle.c_tree.specs.declared.tree.CItem.{CItem}
use Rattle.c_tree.specs.declared.tree.CItem.TheVariants as item
use Rattle.c_forms.specs.Items.{function}
use Rattle.c_names.specs.Names.{outer}
use Rattle.c_nets.specs.Nets.{wire_from}
use Rattle.c_types.specs.Gathered.{Gathered}
use Rattle.c_valid.specs.Tests.{Known, test_of}
use Rattle.c_valid.specs.Functions.{given_back, head, known_of, type_functions, value}

-- the head of the function of a stream whose values have the type
abbrev pub stream_head : Gathered → StreamC → Ty → CHead
stream_head all stream ty = head all External (outer all.names (codes "_valid_") stream.name) ty

-- a function that gives the test back, or its declaration alone
abbrev pub stream_item : Bool → CHead → CExp → CItem
stream_item true own test = item.Function (function own (given_back test))
stream_item false own test = item.Prototype own

abbrev pub items_by : Bool → CHead → Option CExp → List CItem
items_by defined own None = []
items_by defined own (Some test) = stream_item defined own test ∷ []

-- the function of a stream whose values have the type, if it has one
abbrev pub items_for : Bool → Known → StreamC → Ty → List CItem
items_for defined it stream ty = items_by defined (stream_head it.all stream ty) (test_of it ty value)

abbrev pub items_on : Bool → Known → StreamC → Option WireC → List CItem
items_on defined it stream None = []
items_on defined it stream (Some wire) = items_for defined it stream wire.ty

-- the function of a node that is an input stream
abbrev pub node_items : Bool → Known → Core → ℕ → NodeC → List CItem
node_items defined it core number (node.From stream) = items_on defined it stream (wire_from core number 0)
node_items defined it core number _ = []

-- of the nodes from a number on
abbrev pub nodes_items : Bool → Known → Core → ℕ → List NodeC → List CItem
nodes_items defined it core number [] = []
nodes_items defined it core number (one ∷ nodes) = node_items defined it core number one ++ nodes_items defined it core (number + 1) nodes

-- the functions of the input streams, or their declarations alone
abbrev pub stream_functions : Bool → Known → Core → List CItem
stream_functions defined it core = nodes_items defined it core 0 core.nodes

-- the declarations of the functions of input streams
abbrev pub valid_prototypes : Gathered → Core → List CItem
valid_prototypes all core = stream_functions false (known_of all) core

-- the functions of types, and those of input streams
abbrev pub valid_functions : Gathered → Core → List CItem
valid_functions all core = type_functions (known_of all) ++ stream_functions true (known_of all) core
