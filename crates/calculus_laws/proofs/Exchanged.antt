-- A list in which the element at a place and the next one changed places.
use Rattle.std.proofs.Common.{◌≡◌, ℕ, zero, suc, ◌+◌, ◌<◌, ◌&&◌, Bool, true, false, cond, List, [], ◌∷◌, length, get_or, Option, Some, slice_get, slice_set, refl, ap, ◌∙◌, arith}
use Rattle.std.specs.List.{find, list_all, swap}
use Rattle.calculus_laws.specs.Swapping.{exchanged}

pub length-exchanged : {X : Type 0} (k : ℕ) (xs : List X) → length (exchanged k xs) ≡ length xs
length-exchanged k [] = refl
length-exchanged k (x ∷ []) = refl
length-exchanged zero (x ∷ y ∷ xs) = refl
length-exchanged (suc k) (x ∷ y ∷ xs) = ap suc (length-exchanged k (y ∷ xs))

first_of_two : {X : Type 0} (x y : X) (other : Option X) (a b : Bool) → (a ≡ true → b ≡ true → ⊥)
    → cond b (Some y) (cond a (Some x) other) ≡ cond a (Some x) (cond b (Some y) other)
first_of_two x y other true true not_both = absurd (not_both refl refl)
first_of_two x y other true false not_both = refl
first_of_two x y other false true not_both = refl
first_of_two x y other false false not_both = refl

-- the first that passes is the same if not both of the two pass
pub find-exchanged : {X : Type 0} (test : X → Bool) (k : ℕ) (xs : List X)
    → ((x y : X) → slice_get xs k ≡ Some x → slice_get xs (suc k) ≡ Some y → test x ≡ true → test y ≡ true → ⊥)
    → find test (exchanged k xs) ≡ find test xs
find-exchanged test k [] not_both = refl
find-exchanged test k (x ∷ []) not_both = refl
find-exchanged test zero (x ∷ y ∷ xs) not_both = first_of_two x y (find test xs) (test x) (test y) (not_both x y refl refl)
find-exchanged test (suc k) (x ∷ y ∷ xs) not_both = ap (cond (test x) (Some x)) (find-exchanged test k (y ∷ xs) not_both)

-- each element was there before
pub was_before : {X : Type 0} (k : ℕ) (xs : List X) (i : ℕ) (x : X) → slice_get (exchanged k xs) i ≡ Some x → (j : ℕ) × (slice_get xs j ≡ Some x)
was_before k [] i x found = cc
was_before k (y ∷ []) i x found = (i, found)
was_before zero (y ∷ z ∷ xs) zero x found = (1, found)
was_before zero (y ∷ z ∷ xs) (suc zero) x found = (0, found)
was_before zero (y ∷ z ∷ xs) (suc (suc i)) x found = (suc (suc i), found)
was_before (suc k) (y ∷ z ∷ xs) zero x found = (0, found)
was_before (suc k) (y ∷ z ∷ xs) (suc i) x found = let before = was_before k (z ∷ xs) i x found in (suc before.0, before.1)

all_of_two : (a b c : Bool) → (b && (a && c)) ≡ (a && (b && c))
all_of_two true b c = refl
all_of_two false true c = refl
all_of_two false false c = refl

-- what holds of each element holds of each of the others
pub list_all-exchanged : {X : Type 0} (test : X → Bool) (k : ℕ) (xs : List X) → list_all test (exchanged k xs) ≡ list_all test xs
list_all-exchanged test k [] = refl
list_all-exchanged test k (x ∷ []) = refl
list_all-exchanged test zero (x ∷ y ∷ xs) = all_of_two (test x) (test y) (list_all test xs)
list_all-exchanged test (suc k) (x ∷ y ∷ xs) = ap (λ b. test x && b) (list_all-exchanged test k (y ∷ xs))

set_twice : {X : Type 0} (k : ℕ) (xs : List X) (d : X) → suc k < length xs
    → slice_set (slice_set xs k (get_or xs (suc k) d)) (suc k) (get_or xs k d) ≡ exchanged k xs
set_twice k [] d within = absurd (omega arith)
set_twice k (x ∷ []) d within = absurd (omega arith)
set_twice zero (x ∷ y ∷ xs) d within = refl
set_twice (suc k) (x ∷ y ∷ xs) d within = ap (λ ys. x ∷ ys) (set_twice k (y ∷ xs) d (omega arith))

-- a swap of the two elements
pub swap-exchanged : {X : Type 0} (k : ℕ) (xs : List X) → suc k < length xs → swap xs k (suc k) ≡ exchanged k xs
swap-exchanged k [] within = absurd (omega arith)
swap-exchanged k (x ∷ xs) within = set_twice k (x ∷ xs) x within

pub swap_next : {X : Type 0} (xs : List X) (k : ℕ) → k + 1 < length xs → swap xs k (k + 1) ≡ exchanged k xs
swap_next xs k within =
    let next : k + 1 ≡ suc k = omega arith in
    ap (swap xs k) next ∙ swap-exchanged k xs (omega arith)
