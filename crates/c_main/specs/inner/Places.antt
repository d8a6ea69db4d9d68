-- Marks by places.
use Rattle.std.specs.Prelude.{ℕ, Bool, false, List, Option, Some, None, slice_get}

abbrev pub or_false : Option Bool → Bool
or_false None = false
or_false (Some holds) = holds

-- whether the place is there, and marked
abbrev pub is_marked : List Bool → ℕ → Bool
is_marked marks place = or_false (slice_get marks place)
