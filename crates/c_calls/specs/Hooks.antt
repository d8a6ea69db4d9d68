-- The hooks of streams, which other files define.
use Rattle.std.specs.Prelude.{ℕ, ◌+◌, List, [], ◌∷◌, ◌++◌, Option, Some, None, codes, if◌then◌else◌}
use Rattle.hume_base.specs.declared.types.Ty.{Ty}
use Rattle.hume_base.specs.declared.types.Types.{Types}
use Rattle.hume_model.specs.declared.core_tree.StreamC.{StreamC}
use Rattle.hume_model.specs.declared.core_tree.WireC.{WireC}
use Rattle.hume_model.specs.declared.core_tree.NodeC.{NodeC}
use Rattle.hume_model.specs.declared.core_tree.NodeC.TheVariants as node
use Rattle.hume_model.specs.declared.core_tree.Core.{Core}
use Rattle.c_tree.specs.declared.tree.CType.{CType}
use Rattle.c_tree.specs.declared.tree.CType.TheVariants as ctype
use Rattle.c_tree.specs.declared.tree.Passing.{Passing}
use Rattle.c_tree.specs.declared.tree.Passing.TheVariants as passing
use Rattle.c_tree.specs.declared.tree.Linkage.TheVariants.{External}
use Rattle.c_tree.specs.declared.tree.CParameter.{CParameter}
use Rattle.c_tree.specs.declared.tree.CHead.{CHead}
use Rattle.c_tree.specs.declared.tree.CItem.{CItem}
use Rattle.c_tree.specs.declared.tree.CItem.TheVariants as item
use Rattle.c_names.specs.Names.{outer}
use Rattle.c_types.specs.Shapes.{is_scalar}
use Rattle.c_types.specs.Gathered.{Gathered, c_type}
use Rattle.c_nets.specs.Nets.{wire_from, wire_to}

-- the head of a function that other files see
abbrev pub outer_head : Option CType → List ℕ → List CParameter → CHead
outer_head gives name parameters = record { linkage = External; result = gives; name = name; parameters = parameters }

abbrev pub value : Gathered → Ty → Passing → CParameter
value all ty how = record { ty = c_type all ty; passing = how; name = codes "value" }

-- a function of one value
abbrev pub hook : Gathered → Option CType → List ℕ → Ty → Passing → CHead
hook all gives name ty how = outer_head gives name (value all ty how ∷ [])

-- a scalar goes to a hook by its value, another value by a pointer through which nothing is written
abbrev pub write_passing : Types → Ty → Passing
write_passing types ty = if is_scalar types ty then passing.Value else passing.Read

-- the hook of an input stream writes the next value, and says whether there is one
abbrev pub read_hooks : Gathered → StreamC → Option WireC → List CItem
read_hooks all stream None = []
read_hooks all stream (Some wire) =
    item.Prototype (hook all (Some ctype.Bool) (outer all.names (codes "_read_") stream.name) wire.ty passing.Written) ∷ []

-- the hook of an output stream takes the next value
abbrev pub write_hooks : Gathered → StreamC → Option WireC → List CItem
write_hooks all stream None = []
write_hooks all stream (Some wire) =
    item.Prototype (hook all None (outer all.names (codes "_write_") stream.name) wire.ty (write_passing all.types wire.ty)) ∷ []

abbrev pub node_hooks : Gathered → Core → ℕ → NodeC → List CItem
node_hooks all core number (node.Rules b) = []
node_hooks all core number (node.From stream) = read_hooks all stream (wire_from core number 0)
node_hooks all core number (node.To stream) = write_hooks all stream (wire_to core number 0)

-- of the nodes from a number on
abbrev pub hooks_from : Gathered → Core → ℕ → List NodeC → List CItem
hooks_from all core number [] = []
hooks_from all core number (one ∷ nodes) = node_hooks all core number one ++ hooks_from all core (number + 1) nodes
