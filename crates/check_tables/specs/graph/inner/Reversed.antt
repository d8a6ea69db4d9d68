-- Graphs whose edges go the other way.
use Rattle.std.specs.Prelude.{◌≡◌, ℕ, ◌<◌, List, [], length, slice_index_or, Contains}
use Rattle.check_tables.specs.graph.Cycles.{LeadsTo}

-- the nodes of which P holds lead to node a now, and each node leads where it led before
pub record LedBack (old new : List (List ℕ)) (a : ℕ) (P : ℕ → Type 0) : Type 0 where
  pub long : length new ≡ length old
  pub kept : (c x : ℕ) → Contains (slice_index_or old c []) x → Contains (slice_index_or new c []) x
  pub added : (c : ℕ) → c < length old → P c → Contains (slice_index_or new c []) a

-- what one of the first nodes leads to leads back to it
pub record IsReversed (graph : List (List ℕ)) (count : ℕ) (back : List (List ℕ)) : Type 0 where
  pub long : length back ≡ length graph
  pub edges : (a b : ℕ) → a < count → LeadsTo graph a b → Contains (slice_index_or back b []) a
