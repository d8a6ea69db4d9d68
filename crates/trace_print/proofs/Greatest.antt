-- The greatest of the rooms of the first wires.
use Rattle.std.proofs.Common.{◌≡◌, ℕ, zero, suc, ◌≤◌, List, [], ◌∷◌, map, take, max, Some, slice_get, ap, arith}
use Rattle.hume_base.specs.Sizes.{greatest}

module _ {A : Type 0} (f : A → ℕ) where
  -- one more of them
  pub greatest_more : (xs : List A) (n : ℕ) (x : A) → slice_get xs n ≡ Some x → greatest (map f (take (suc n) xs)) ≡ max (f x) (greatest (map f (take n xs)))
  greatest_more [] n x there = cc
  greatest_more (y ∷ ys) zero x there =
      let same : y ≡ x = cc in
      ap (λ z. max (f z) 0) same
  greatest_more (y ∷ ys) (suc n) x there =
      let later = greatest_more ys n x there in
      together (f y) (f x) (greatest (map f (take n ys))) (greatest (map f (take (suc n) ys))) later
    where
      together : (a b some more : ℕ) → more ≡ max b some → max a more ≡ max b (max a some)
      together a b some more e = omega (arith, e)

  -- none is greater
  pub greatest_bounds : (xs : List A) (n : ℕ) (x : A) → slice_get xs n ≡ Some x → f x ≤ greatest (map f xs)
  greatest_bounds [] n x there = cc
  greatest_bounds (y ∷ ys) zero x there =
      let same : f y ≡ f x = (let e : y ≡ x = cc in ap f e) in
      within (f y) (f x) (greatest (map f ys)) same
    where
      within : (a b c : ℕ) → a ≡ b → b ≤ max a c
      within a b c e = omega (arith, e)
  greatest_bounds (y ∷ ys) (suc n) x there =
      let later = greatest_bounds ys n x there in
      within (f y) (f x) (greatest (map f ys)) later
    where
      within : (a b c : ℕ) → b ≤ c → b ≤ max a c
      within a b c e = omega (arith, e)
