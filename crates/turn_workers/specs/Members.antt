-- The nodes of a group.
use Rattle.std.specs.Prelude.{ℕ, zero, suc, ◌==◌, if◌then◌else◌, List, [], ◌∷◌, ◌++◌, map}
use Rattle.box_step.specs.declared.nodes.cell.BoxCell.{BoxCell}
use Rattle.superstep_core.specs.declared.grouping.Grouping.{Grouping}
use Rattle.superstep_core.specs.Groups.{group_of}

-- the nodes of a group among so many from a number on, the greatest first
abbrev pub members_from : Grouping → ℕ → ℕ → ℕ → List ℕ
members_from g i from zero = []
members_from g i from (suc count) = members_from g i (suc from) count ++ (if group_of g from == i then from ∷ [] else [])

-- the numbers of cells of nodes
abbrev pub numbers_of : List BoxCell → List ℕ
numbers_of cells = map (λ cell. cell.number) cells
