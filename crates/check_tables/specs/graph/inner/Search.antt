-- The nodes that a search has seen: a list, with a mark for each.
use Rattle.std.specs.Prelude.{◌≡◌, ◌↔◌, ◌⊎◌, ℕ, suc, ◌+◌, ◌<◌, ◌≤◌, Bool, List, length, take, Contains}
use Rattle.check_tables.specs.graph.Cycles.{LeadsTo, Chain, InCycle}
use Rattle.check_tables.specs.graph.inner.Progress.{Hit, unmarked}

abbrev pub IsMarked : List Bool → List ℕ → Type 0
IsMarked marks seen = (c : ℕ) → Hit marks c ↔ Contains seen c

-- a node of the row, of so many nodes
pub record IsListed (count : ℕ) (row : List ℕ) (c : ℕ) : Type 0 where
  pub within : c < count
  pub listed : Contains row c

-- marks m with seen s became marks n with seen t: those of which P holds were added at the end
pub record Grows (m : List Bool) (s : List ℕ) (n : List Bool) (t : List ℕ) (P : ℕ → Type 0) : Type 0 where
  pub long : length n ≡ length m
  pub marked : IsMarked n t
  pub prefix : take (length s) t ≡ s
  pub only : (c : ℕ) → Contains t c → Contains s c ⊎ P c
  pub all : (c : ℕ) → P c → Contains t c
  pub cost : unmarked n + length t ≡ unmarked m + length s

-- a search from node f for what it leads to by one step or more, that has looked at the first `at` of the nodes that it saw
pub record IsSearched (graph : List (List ℕ)) (f at : ℕ) (marks : List Bool) (seen : List ℕ) : Type 0 where
  pub long : length marks ≡ length graph
  pub marked : IsMarked marks seen
  pub sound : (c : ℕ) → Contains seen c → (k : ℕ) × Chain graph f c (suc k)
  pub start : (c : ℕ) → LeadsTo graph f c → Contains seen c
  pub closed : (a c : ℕ) → Contains (take at seen) a → LeadsTo graph a c → Contains seen c
  pub within : (c : ℕ) → Contains seen c → c < length graph
  pub reached : at ≤ length seen

-- no node with a mark is in a cycle
abbrev pub MarkedAreFree : List (List ℕ) → List Bool → Type 0
MarkedAreFree graph marks = (a : ℕ) → a < length graph → Hit marks a → InCycle graph a → ⊥
