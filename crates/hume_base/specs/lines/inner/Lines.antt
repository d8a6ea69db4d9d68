-- The lines of the places of a text.
use Rattle.std.specs.Prelude.{◌≡◌, ℕ, ◌+◌, ◌<◌, List, length, slice_index}
use Rattle.hume_base.specs.Places.{line_at}

-- the lines of the first places
pub record AreFirstLines (text : List ℕ) (count : ℕ) (lines : List ℕ) : Type 0 where
  pub long : length lines ≡ count
  pub each : (place : ℕ) → place < count → slice_index lines place ≡ line_at text place

-- the lines of all places, that of the end with them
abbrev pub AreLines : List ℕ → List ℕ → Type 0
AreLines text lines = AreFirstLines text (length text + 1) lines
