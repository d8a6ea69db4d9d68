-- Lists of what is said of numbers one after another.
use Rattle.std.proofs.Common.{◌≡◌, ℕ, zero, suc, ◌+◌, List, [], ◌∷◌, ◌++◌, refl, ap, sym, ◌∙◌, arith}
use Rattle.std.specs.List.{flat_map, range_with_len}
use Rattle.std.proofs.lemmas.List.{append-nil, append_assoc}
use Rattle.std.proofs.lemmas.List.Concat.{flat_map-append}

-- one number more
last : (from count number : ℕ) → from + count ≡ number → range_with_len from (suc count) ≡ range_with_len from count ++ number ∷ []
last from zero number is = let same : from ≡ number = omega (arith, is) in ap (λ n. n ∷ []) same
last from (suc count) number is = ap (λ later. from ∷ later) (last (from + 1) count number (omega (arith, is)))

-- what is said of one more
flat_more : {X : Type 0} (f : ℕ → List X) (from count : ℕ)
    → flat_map f (range_with_len from (suc count)) ≡ flat_map f (range_with_len from count) ++ f (from + count)
flat_more f from count =
    ap (flat_map f) (last from count (from + count) refl)
    ∙ flat_map-append f (range_with_len from count) ((from + count) ∷ [])
    ∙ ap (λ more. flat_map f (range_with_len from count) ++ more) (append-nil (f (from + count)))

-- behind what there was first stands what is said of one more
pub put_more : {X : Type 0} (f : ℕ → List X) (from count number : ℕ) (first so_far more : List X) → from + count ≡ number
    → so_far ≡ first ++ flat_map f (range_with_len from count) → more ≡ so_far ++ f number
    → more ≡ first ++ flat_map f (range_with_len from (count + 1))
put_more f from count number first so_far more is held now =
    let next : suc count ≡ count + 1 = omega arith in
    let here : flat_map f (range_with_len from (suc count)) ≡ flat_map f (range_with_len from count) ++ f number =
    flat_more f from count ∙ ap (λ n. flat_map f (range_with_len from count) ++ f n) is in
    now ∙ ap (λ front. front ++ f number) held
    ∙ append_assoc first (flat_map f (range_with_len from count)) (f number)
    ∙ ap (λ later. first ++ later) (sym here ∙ ap (λ n. flat_map f (range_with_len from n)) next)

-- what is said of all of them
pub put_all : {X : Type 0} (f : ℕ → List X) (from count total : ℕ) (first so_far : List X) → count ≡ total
    → so_far ≡ first ++ flat_map f (range_with_len from count) → so_far ≡ first ++ flat_map f (range_with_len from total)
put_all f from count total first so_far all held = held ∙ ap (λ n. first ++ flat_map f (range_with_len from n)) all
