-- The object of a box, and how it starts.
use Rattle.std.specs.Prelude.{ℕ, ◌+◌, ◌&&◌, nat_lt, Bool, true, false, List, [], ◌∷◌, ◌++◌, Option, Some, None, map, codes, length, if◌then◌else◌}
use Rattle.hume_base.specs.declared.types.Ty.{Ty}
use Rattle.hume_base.specs.declared.types.Value.{Value}
use Rattle.hume_model.specs.declared.core_tree.BoxC.{BoxC}
use Rattle.hume_model.specs.declared.core_tree.PortC.{PortC}
use Rattle.hume_model.specs.declared.core_tree.WireC.{WireC}
use Rattle.hume_model.specs.declared.core_tree.Core.{Core}
use Rattle.c_tree.specs.declared.tree.CType.TheVariants as ctype
use Rattle.c_tree.specs.declared.tree.CStm.{CStm}
use Rattle.c_tree.specs.declared.tree.CStm.TheVariants as stm
use Rattle.c_tree.specs.declared.tree.CMember.{CMember}
use Rattle.c_tree.specs.declared.tree.CMember.TheVariants as member
use Rattle.c_tree.specs.declared.tree.CItem.{CItem}
use Rattle.c_tree.specs.declared.tree.CItem.TheVariants as item
use Rattle.c_names.specs.Names.{inner}
use Rattle.c_types.specs.Gathered.{Gathered, c_type}
use Rattle.c_nets.specs.declared.inlets.Inlet.{Inlet}
use Rattle.c_nets.specs.Inlets.{byte, first_value, inlet_members, number, started}
use Rattle.c_nets.specs.Nets.{box_inlet, wire_to}
use Rattle.c_nets.specs.Parts.{each_below, mask_width, pending}
use Rattle.c_nets.specs.FairRules.{order_started}
use Rattle.c_nets.specs.Values.{writes}

-- whether the order of the box's rules changes
abbrev pub is_fair : BoxC → Bool
is_fair b = b.fair && nat_lt 1 (length b.rules)

abbrev pub input_member : Gathered → PortC → Option WireC → List CMember
input_member all port None = []
input_member all port (Some wire) = member.Struct (inlet_members (c_type all wire.ty) wire.depth) (codes "i_" ++ port.name) ∷ []

-- the wires that lead to the inputs from a place on
abbrev pub input_members : Gathered → Core → ℕ → ℕ → List PortC → List CMember
input_members all core node place [] = []
input_members all core node place (port ∷ ports) =
    input_member all port (wire_to core node place) ++ input_members all core node (place + 1) ports

abbrev pub output_member : Gathered → PortC → CMember
output_member all port = member.Plain (c_type all port.ty) (codes "o_" ++ port.name)

abbrev pub order_members : BoxC → List CMember
order_members b =
    if is_fair b then member.Comment (codes "the order of the rules") ∷ member.Array byte (codes "order") (length b.rules) ∷ [] else []

-- which outputs are pending, and the order of the rules
abbrev pub state_members : BoxC → List CMember
state_members b =
    member.Comment (codes "which outputs are pending") ∷ member.Plain (ctype.Unsigned (mask_width b)) (codes "has") ∷ order_members b

abbrev pub box_members : Gathered → Core → ℕ → BoxC → List CMember
box_members all core node b = input_members all core node 0 b.ins ++ (map (output_member all) b.outs ++ state_members b)

-- the declaration of the object of a box
abbrev pub box_item : Gathered → Core → ℕ → BoxC → CItem
box_item all core node b = item.StructObject (box_members all core node b) (inner all.names (codes "b_") b.name)

-- a wire as it is at first, with its first value if it has one
abbrev pub start : Gathered → Inlet → Ty → Option Value → List CStm
start all inlet ty None = started inlet false
start all inlet ty (Some first) = started inlet true ++ writes all first (first_value inlet) ty

abbrev pub input_start : Gathered → BoxC → ℕ → Option WireC → List CStm
input_start all b place None = []
input_start all b place (Some wire) = start all (box_inlet all.names b place wire) wire.ty wire.initial

-- the wires at the inputs as they are at first
abbrev pub inputs_start : Gathered → Core → ℕ → BoxC → List CStm
inputs_start all core node b = each_below (λ place. input_start all b place (wire_to core node place)) (length b.ins)

abbrev pub order_start : Gathered → BoxC → List CStm
order_start all b = if is_fair b then order_started all.names b else []

-- a box as it is at first: nothing is pending, the wires at its inputs have their first values, and its rules are in the order of the source
abbrev pub box_start : Gathered → Core → ℕ → BoxC → List CStm
box_start all core node b = stm.Assign (pending all.names b) (number 0)
    ∷ (inputs_start all core node b ++ order_start all b)
