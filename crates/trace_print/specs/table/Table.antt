-- The table of bounds: a line for each box of a core, in source order, and one for all of them together.
use Rattle.std.specs.Prelude.{ℕ, List, [], ◌∷◌, ◌++◌, map, sum, Option, None, Some}
use Rattle.std.specs.List.{filter_map}
use Rattle.hume_model.specs.declared.core_tree.NodeC.{NodeC}
use Rattle.hume_model.specs.declared.core_tree.NodeC.TheVariants.{Rules, From, To}
use Rattle.hume_model.specs.declared.core_tree.Core.{Core}
use Rattle.box_costs.specs.Bounds.{box_bound}
use Rattle.box_costs.specs.CostRules.{node_bound}
use Rattle.trace_print.specs.SpaceLines.{space_line, total_line}

-- the line of a box; a stream has none
abbrev pub box_line : Core → NodeC → Option (List ℕ)
box_line core (Rules b) = Some (space_line b.name (box_bound core b))
box_line core (From stream) = None
box_line core (To stream) = None

-- the words of heap that all boxes may take together
abbrev pub total_heap : Core → ℕ
total_heap core = sum (map (λ node. (node_bound core node).heap) core.nodes)

-- the words of stack
abbrev pub total_stack : Core → ℕ
total_stack core = sum (map (λ node. (node_bound core node).stack) core.nodes)

-- the line of all boxes together
abbrev pub total_line_of : Core → List ℕ
total_line_of core = total_line (total_heap core) (total_stack core)

-- a line for each box in source order, and one for all of them
abbrev pub space_table : Core → List (List ℕ)
space_table core = filter_map (box_line core) core.nodes ++ total_line_of core ∷ []
