-- The first items of a list, one more and all of them.
use Rattle.std.proofs.Common.{◌≡◌, ℕ, zero, suc, ◌+◌, ◌<◌, ◌≤◌, List, [], ◌∷◌, ◌++◌, length, take, get_or, refl, ap, sym, ◌∙◌, arith}
use Rattle.std.proofs.lemmas.List.{take_more}

pub taken_more : {X : Type 0} (xs : List X) (i : ℕ) (x : X) → i < length xs → x ≡ get_or xs i x → take (i + 1) xs ≡ take i xs ++ x ∷ []
taken_more xs i x low is = take_more xs i x low ∙ ap (λ p. take i xs ++ p ∷ []) (sym is)

pub taken_all : {X : Type 0} (xs : List X) (i : ℕ) → length xs ≤ i → take i xs ≡ xs
taken_all [] zero low = refl
taken_all [] (suc i) low = refl
taken_all (x ∷ xs) zero low = absurd (omega (arith, low))
taken_all (x ∷ xs) (suc i) low = ap (λ ys. x ∷ ys) (taken_all xs i (omega (arith, low)))

pub taken_long : {X : Type 0} (xs : List X) (i : ℕ) → i ≤ length xs → length (take i xs) ≡ i
taken_long xs zero low = refl
taken_long [] (suc i) low = absurd (omega (arith, low))
taken_long (x ∷ xs) (suc i) low = ap suc (taken_long xs i (omega (arith, low)))
