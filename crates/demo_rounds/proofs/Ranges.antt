-- Lists of what is said of numbers one after another.
use Rattle.std.proofs.Common.{◌≡◌, ℕ, zero, suc, ◌+◌, ◌-◌, ◌≤◌, List, [], ◌∷◌, ◌++◌, refl, ap, sym, ◌∙◌, arith}
use Rattle.std.specs.List.{flat_map, range_with_len}
use Rattle.std.proofs.lemmas.List.{append-nil, append_assoc}
use Rattle.std.proofs.lemmas.List.Concat.{flat_map-append}

-- the same is said of each
pub same_flat : {X : Type 0} (f g : ℕ → List X) (from count : ℕ) → ((n : ℕ) → f n ≡ g n)
    → flat_map f (range_with_len from count) ≡ flat_map g (range_with_len from count)
same_flat f g from zero same = refl
same_flat f g from (suc count) same =
    ap (λ first. first ++ flat_map f (range_with_len (from + 1) count)) (same from)
    ∙ ap (λ later. g from ++ later) (same_flat f g (from + 1) count same)

-- one number more
last : (from count number : ℕ) → from + count ≡ number → range_with_len from (suc count) ≡ range_with_len from count ++ number ∷ []
last from zero number is = let same : from ≡ number = omega (arith, is) in ap (λ n. n ∷ []) same
last from (suc count) number is = ap (λ later. from ∷ later) (last (from + 1) count number (omega (arith, is)))

-- what is said of one more
pub flat_more : {X : Type 0} (f : ℕ → List X) (count : ℕ) → flat_map f (range_with_len 0 (suc count)) ≡ flat_map f (range_with_len 0 count) ++ f count
flat_more f count =
    ap (flat_map f) (last 0 count count (omega arith))
    ∙ flat_map-append f (range_with_len 0 count) (count ∷ [])
    ∙ ap (λ more. flat_map f (range_with_len 0 count) ++ more) (append-nil (f count))

-- what is said of the first numbers comes first in what is said of more
flat_further : {X : Type 0} (f : ℕ → List X) (count more : ℕ)
    → (rest : List X) × (flat_map f (range_with_len 0 (count + more)) ≡ flat_map f (range_with_len 0 count) ++ rest)
flat_further f count zero =
    let none : count + 0 ≡ count = omega arith in
    ([], ap (λ k. flat_map f (range_with_len 0 k)) none ∙ sym (append-nil (flat_map f (range_with_len 0 count))))
flat_further f count (suc more) =
    let next : count + suc more ≡ suc (count + more) = omega arith in
    let earlier = flat_further f count more in (
      earlier.0 ++ f (count + more),
      ap (λ k. flat_map f (range_with_len 0 k)) next
          ∙ flat_more f (count + more)
          ∙ ap (λ first. first ++ f (count + more)) earlier.1
          ∙ append_assoc (flat_map f (range_with_len 0 count)) earlier.0 (f (count + more)),
    )

pub flat_within : {X : Type 0} (f : ℕ → List X) (count total : ℕ) → count ≤ total
    → (rest : List X) × (flat_map f (range_with_len 0 total) ≡ flat_map f (range_with_len 0 count) ++ rest)
flat_within f count total within =
    let split : total ≡ count + (total - count) = omega (arith, within) in
    let further = flat_further f count (total - count) in
    (further.0, ap (λ k. flat_map f (range_with_len 0 k)) split ∙ further.1)
