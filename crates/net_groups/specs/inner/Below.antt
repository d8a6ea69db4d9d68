-- Numbers below a limit.
use Rattle.std.specs.Prelude.{◌<◌, ℕ, List, slice_index}

-- the first `count` numbers are below the limit
abbrev pub AreBelow : ℕ → ℕ → List ℕ → Type 0
AreBelow limit count xs = (k : ℕ) → k < count → slice_index xs k < limit
