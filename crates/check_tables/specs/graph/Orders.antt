-- In which order nodes get their numbers.
use Rattle.std.specs.Prelude.{ℕ, ◌<◌, Some, List, length, take, slice_index_or, Contains}
use Rattle.hume_base.specs.Least.{IsFirst}
use Rattle.check_tables.specs.graph.Cycles.{LeadsTo}

-- the node has no number yet, and leads only to nodes that have one
pub record IsNext (graph : List (List ℕ)) (numbered : List ℕ) (a : ℕ) : Type 0 where
  pub within : a < length graph
  pub new' : Contains numbered a → ⊥
  pub ready : (b : ℕ) → LeadsTo graph a b → Contains numbered b

-- each next number goes to the first node that has none and leads only to numbered ones
abbrev pub IsNumbering : List (List ℕ) → List ℕ → Type 0
IsNumbering graph order = (k : ℕ) → k < length order → IsFirst (IsNext graph (take k order)) (Some (slice_index_or order k 0))

-- the nodes in the order of their numbers, as far as they get one
pub record IsOrder (graph : List (List ℕ)) (order : List ℕ) : Type 0 where
  pub numbering : IsNumbering graph order
  pub whole : (a : ℕ) → IsNext graph order a → ⊥

-- each node has a number
abbrev pub HasAll : List (List ℕ) → List ℕ → Type 0
HasAll graph order = (a : ℕ) → a < length graph → Contains order a
