-- Lists of what is said of numbers one after another.
use Rattle.std.proofs.Common.{◌≡◌, ℕ, zero, suc, ◌+◌, ◌-◌, ◌<◌, ◌≤◌, List, [], ◌∷◌, ◌++◌, refl, ap, sym, ◌∙◌, arith}
use Rattle.std.specs.List.{flat_map, range_with_len}
use Rattle.std.proofs.lemmas.List.{append-nil, append_assoc}
use Rattle.std.proofs.lemmas.List.Concat.{flat_map-append}

-- the same is said of each
pub same_flat : {X : Type 0} (f g : ℕ → List X) (from count : ℕ) → ((n : ℕ) → from ≤ n → n < from + count → f n ≡ g n)
    → flat_map f (range_with_len from count) ≡ flat_map g (range_with_len from count)
same_flat f g from zero same = refl
same_flat f g from (suc count) same =
    ap (λ first. first ++ flat_map f (range_with_len (from + 1) count)) (same from (omega arith) (omega arith))
    ∙ ap (λ later. g from ++ later) (same_flat f g (from + 1) count (λ n least most. same n (omega (arith, least)) (omega (arith, most))))

-- one number more
last : (from count number : ℕ) → from + count ≡ number → range_with_len from (suc count) ≡ range_with_len from count ++ number ∷ []
last from zero number is = let same : from ≡ number = omega (arith, is) in ap (λ n. n ∷ []) same
last from (suc count) number is = ap (λ later. from ∷ later) (last (from + 1) count number (omega (arith, is)))

-- what is said of one more
pub flat_more : {X : Type 0} (f : ℕ → List X) (from count : ℕ)
    → flat_map f (range_with_len from (suc count)) ≡ flat_map f (range_with_len from count) ++ f (from + count)
flat_more f from count =
    ap (flat_map f) (last from count (from + count) refl)
    ∙ flat_map-append f (range_with_len from count) ((from + count) ∷ [])
    ∙ ap (λ more. flat_map f (range_with_len from count) ++ more) (append-nil (f (from + count)))

-- what is said of the first numbers comes first in what is said of more
flat_further : {X : Type 0} (f : ℕ → List X) (from count more : ℕ)
    → (rest : List X) × (flat_map f (range_with_len from (count + more)) ≡ flat_map f (range_with_len from count) ++ rest)
flat_further f from count zero =
    let none : count + 0 ≡ count = omega arith in
    ([], ap (λ k. flat_map f (range_with_len from k)) none ∙ sym (append-nil (flat_map f (range_with_len from count))))
flat_further f from count (suc more) =
    let next : count + suc more ≡ suc (count + more) = omega arith in
    let earlier = flat_further f from count more in (
      earlier.0 ++ f (from + (count + more)),
      ap (λ k. flat_map f (range_with_len from k)) next
          ∙ flat_more f from (count + more)
          ∙ ap (λ first. first ++ f (from + (count + more))) earlier.1
          ∙ append_assoc (flat_map f (range_with_len from count)) earlier.0 (f (from + (count + more))),
    )

pub flat_within : {X : Type 0} (f : ℕ → List X) (from count total : ℕ) → count ≤ total
    → (rest : List X) × (flat_map f (range_with_len from total) ≡ flat_map f (range_with_len from count) ++ rest)
flat_within f from count total within =
    let split : total ≡ count + (total - count) = omega (arith, within) in
    let further = flat_further f from count (total - count) in
    (further.0, ap (λ k. flat_map f (range_with_len from k)) split ∙ further.1)
