-- The first words of a row.
use Rattle.std.proofs.Common.{◌≡◌, ℕ, ◌≤◌, List, [], ◌∷◌, take, length, slice_set, refl, arith}

pub first_set : (words : List ℕ) (word : ℕ) → 1 ≤ length words → take 1 (slice_set words 0 word) ≡ word ∷ []
first_set [] word some = absurd (omega arith)
first_set (x ∷ xs) word some = refl
