-- Rules in an order.
use Rattle.std.proofs.Common.{◌≡◌, ℕ, zero, suc, ◌<◌, nat_lt, Bool, true, false, cond, List, [], ◌∷◌, length, Some, slice_get, refl, ap, sym, ◌∙◌, arith}
use Rattle.std.specs.List.{find, list_all}
use Rattle.std.proofs.lemmas.Bool.{and_parts, ltb-true}

below_at : (count : ℕ) (numbers : List ℕ) (place number : ℕ) → list_all (λ n. nat_lt n count) numbers ≡ true → slice_get numbers place ≡ Some number
    → number < count
below_at count [] place number all found = cc
below_at count (first ∷ numbers) zero number all found =
    let same : first ≡ number = cc in
    let less = ltb-true first count (and_parts (nat_lt first count) _ all).0 in
    omega (arith, same, less)
below_at count (first ∷ numbers) (suc place) number all found = below_at count numbers place number (and_parts (nat_lt first count) _ all).1 found

-- a number that stands in an order is below the number of rules
pub stands_below : (number : ℕ) (order : List ℕ) → list_all (λ n. nat_lt n (length order)) order ≡ true → (place : ℕ) → slice_get order place ≡ Some number
    → number < length order
stands_below number order all place found = below_at (length order) order place number all found

-- what is found stands somewhere
pub stands : (test : ℕ → Bool) (numbers : List ℕ) (number : ℕ) → find test numbers ≡ Some number → (place : ℕ) × (slice_get numbers place ≡ Some number)
stands test [] number found = cc
stands test (first ∷ numbers) number found = by (test first) refl (stands test numbers number)
  where
    by : (t : Bool) → test first ≡ t → (find test numbers ≡ Some number → (place : ℕ) × (slice_get numbers place ≡ Some number))
        → (place : ℕ) × (slice_get (first ∷ numbers) place ≡ Some number)
    by true is rest = (0, sym (ap (λ t. cond t (Some first) (find test numbers)) is) ∙ found)
    by false is rest = let later = rest (sym (ap (λ t. cond t (Some first) (find test numbers)) is) ∙ found) in (suc later.0, later.1)
