-- A box of a core, and the core in which another box stands in its place.
use Rattle.std.specs.Prelude.{ℕ, [], Option, Some, None, slice_get, slice_set}
use Rattle.std.specs.Option.{option_and_then}
use Rattle.hume_model.specs.declared.core_tree.BoxC.{BoxC}
use Rattle.hume_model.specs.declared.core_tree.NodeC.{NodeC}
use Rattle.hume_model.specs.declared.core_tree.NodeC.TheVariants.{Rules, From, To}
use Rattle.hume_model.specs.declared.core_tree.Core.{Core}

-- the node is a box
abbrev pub as_box : NodeC → Option BoxC
as_box (Rules b) = Some b
as_box (From stream) = None
as_box (To stream) = None

-- the box at a place, if one stands there
abbrev pub box_at : Core → ℕ → Option BoxC
box_at core node = option_and_then as_box (slice_get core.nodes node)

-- the core in which the box stands at the place
abbrev pub with_box : Core → ℕ → BoxC → Core
with_box core node b = record core { nodes = slice_set core.nodes node (Rules b) }

-- a node without the rules of a box
abbrev pub without_rules : NodeC → NodeC
without_rules (Rules b) = Rules (record b { rules = [] })
without_rules (From stream) = From stream
without_rules (To stream) = To stream
