-- Elements that change one after another.
use Rattle.std.proofs.Common.{◌≡◌, ℕ, zero, suc, ◌<◌, List, [], ◌∷◌, ◌++◌, length, map, take, drop, get_or, slice_set, refl, ap, arith}

pub next_one : {X : Type 0} (f : X → X) (xs : List X) (i : ℕ) (d : X) → i < length xs
    → slice_set (map f (take i xs) ++ drop i xs) i (f (get_or (map f (take i xs) ++ drop i xs) i d)) ≡ map f (take (suc i) xs) ++ drop (suc i) xs
next_one f [] i d less = absurd (omega (arith, less))
next_one f (x ∷ xs) zero d less = refl
next_one f (x ∷ xs) (suc i) d less = ap (λ ys. f x ∷ ys) (next_one f xs i d (omega (arith, less)))
