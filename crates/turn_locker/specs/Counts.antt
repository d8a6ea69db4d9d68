-- How many half steps each node has made, where one that has passed a wire counts as made.
use Rattle.std.specs.Prelude.{ℕ, Bool, false, ◌||◌, ◌+◌, ◌/◌, ◌==◌, List, [], ◌∷◌, slice_index, Option}
use Rattle.atomic_table.specs.Table.{State}
use Rattle.turn_locker.specs.declared.view.View.{View}
use Rattle.turn_locker.specs.Rule.{tick}

-- whether a wire was passed for the node
abbrev pub has_node : ℕ → List (ℕ × ℕ) → Bool
has_node node [] = false
has_node node (q ∷ qs) = (q.0 == node) || has_node node qs

-- whether one of the seats has passed a wire for the node, so that a half step of it is under way
abbrev pub started_by : List View → ℕ → Bool
started_by [] node = false
started_by (v ∷ vs) node = has_node node v.passed || started_by vs node

-- a node's time, by its word, and one more where a half step of it is under way
abbrev pub count_in : {T : Type 0} → State (Option T) View → ℕ → ℕ
count_in s node = slice_index s.words node / 2 + tick (started_by s.views node)
