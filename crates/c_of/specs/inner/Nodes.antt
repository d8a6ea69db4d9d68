-- What a node adds to a file.
use Rattle.std.specs.Prelude.{ℕ, List, [], Option, None, Some}
use Rattle.hume_model.specs.declared.core_tree.BoxC.{BoxC}
use Rattle.hume_model.specs.declared.core_tree.NodeC.{NodeC}
use Rattle.hume_model.specs.declared.core_tree.NodeC.TheVariants.{Rules, From, To}
use Rattle.typed_core.specs.declared.trees.BoxTrees.{BoxTrees}
use Rattle.c_tree.specs.declared.tree.CItem.{CItem}
use Rattle.c_analysis.specs.Targets.{Target}
use Rattle.c_of.specs.File.{box_part}

-- the functions of a box that has trees
abbrev pub box_given : Target → ℕ → BoxC → Option BoxTrees → List CItem
box_given t number b None = []
box_given t number b (Some one) = box_part t number b one

-- the functions of a node, which may have trees
abbrev pub node_part : Target → ℕ → NodeC → Option BoxTrees → List CItem
node_part t number (Rules b) trees = box_given t number b trees
node_part t number (From stream) trees = []
node_part t number (To stream) trees = []

-- how many boxes a node is
abbrev pub boxes_in : NodeC → ℕ
boxes_in (Rules b) = 1
boxes_in (From stream) = 0
boxes_in (To stream) = 0
