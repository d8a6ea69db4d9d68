-- Words that are appended to a code, and what then stands between its old end and its new one.
use Rattle.std.specs.Prelude.{◌≡◌, ℕ, List, ◌++◌, length}

-- the new words begin with the old ones
pub record Grows (old new : List ℕ) : Type 0 where
  pub more : List ℕ
  pub same : new ≡ old ++ more

-- Words were appended, and something stands between the two ends in every code that begins with all of them.
pub record Emitted (old new : List ℕ) (Standing : List ℕ → ℕ → ℕ → Type 0) : Type 0 where
  pub grown : Grows old new
  pub stands : (code : List ℕ) → Grows new code → Standing code (length old) (length new)
