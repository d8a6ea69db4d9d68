-- How the values of a cell stand in its words.
use Rattle.std.specs.Prelude.{ℕ, zero, suc, ◌-◌, nat_lt, List, [], ◌∷◌, ◌++◌, take, drop, if◌then◌else◌}

-- rows of so many words each
unfoldable pub rows : ℕ → ℕ → List ℕ → List (List ℕ)
rows zero size words = []
rows (suc count) size words = take size words ∷ rows count size (drop size words)

-- everything in a ring, from the place `first` on and round to it
abbrev pub from_first : {X : Type 0} → ℕ → List X → List X
from_first first ring = drop first ring ++ take first ring

-- a place in a ring of `end` places, once round it or not
abbrev pub wrapped : ℕ → ℕ → ℕ
wrapped place end = if nat_lt place end then place else place - end

-- a place in a ring of `end` places, or its beginning where the place is at its end
abbrev pub on_from : ℕ → ℕ → ℕ
on_from place end = if nat_lt place end then place else 0
