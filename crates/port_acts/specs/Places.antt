-- Places of ports, and the names of the ports there.
use Rattle.std.specs.Prelude.{◌≡◌, ◌<◌, ℕ, List, [], length, Some}
use Rattle.std.specs.List.{slice_index_or}
use Rattle.hume_ports.specs.Ports.{place_of}

abbrev pub name_at : List (List ℕ) → ℕ → List ℕ
name_at names at = slice_index_or names at []

-- There is a port at the place, and it is the first with its name.
pub record IsPlace (names : List (List ℕ)) (at : ℕ) : Type 0 where
  pub within : at < length names
  pub first : place_of (name_at names at) names ≡ Some at

-- The place is that of the port that the name means.
pub record IsPlaceOf (name : List ℕ) (names : List (List ℕ)) (at : ℕ) : Type 0 where
  pub place : IsPlace names at
  pub named : name_at names at ≡ name
