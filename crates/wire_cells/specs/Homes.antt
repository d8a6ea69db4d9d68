-- Cells at home: each at the number of its wire, in places that may be empty.
use Rattle.std.specs.Prelude.{◌≡◌, ℕ, List, length, Option, Some, slice_get}
use Rattle.wire_cells.specs.Cells.{CellView}

-- the number isn't one of the side
abbrev pub IsOutside : List ℕ → ℕ → Type 0
IsOutside side w = (place : ℕ) → slice_get side place ≡ Some w → ⊥

-- no number stands twice in the side
pub record AreApart (side : List ℕ) : Type 0 where
  pub once : (j k w : ℕ) → slice_get side j ≡ Some w → slice_get side k ≡ Some w → j ≡ k

-- the cells of the numbers of the side are at home, in this order
pub record AreAtHome (side : List ℕ) (home : List (Option CellView)) (cells : List CellView) : Type 0 where
  pub long : length cells ≡ length side
  pub each : (k w : ℕ) → slice_get side k ≡ Some w → slice_get home w ≡ Some (slice_get cells k)

-- all places but those of the side are as before
pub record AreOthersKept (side : List ℕ) (old new : List (Option CellView)) : Type 0 where
  pub others : (w : ℕ) → IsOutside side w → slice_get new w ≡ slice_get old w
  pub same : length new ≡ length old
