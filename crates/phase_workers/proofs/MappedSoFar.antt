-- A list of which the first items are mapped.
use Rattle.std.proofs.Common.{◌≡◌, ◌+◌, ◌<◌, ◌≤◌, ℕ, zero, suc, List, [], ◌∷◌, map, length, get_or, slice_get, Some, refl, ap, sym, ◌∙◌, arith}
use Rattle.std.proofs.Math.ListN.{set}
use Rattle.std.proofs.lemmas.Option.{slice_get-get_or}

pub mapped : {X : Type 0} → (X → X) → ℕ → List X → List X
mapped f zero xs = xs
mapped f (suc k) [] = []
mapped f (suc k) (x ∷ xs) = f x ∷ mapped f k xs

-- the first so many items are mapped, and no others
abbrev pub IsMapped : {X : Type 0} → (X → X) → ℕ → List X → List X → Type 0
IsMapped f count old now = now ≡ mapped f count old

mapped_long : {X : Type 0} (f : X → X) (k : ℕ) (xs : List X) → length (mapped f k xs) ≡ length xs
unfolding mapped
mapped_long f zero xs = refl
mapped_long f (suc k) [] = refl
mapped_long f (suc k) (x ∷ xs) = ap suc (mapped_long f k xs)

next_there : {X : Type 0} (f : X → X) (k : ℕ) (xs : List X) (d : X) → get_or (mapped f k xs) k d ≡ get_or xs k d
unfolding mapped
next_there f zero xs d = refl
next_there f (suc k) [] d = refl
next_there f (suc k) (x ∷ xs) d = next_there f k xs d

next_set : {X : Type 0} (f : X → X) (k : ℕ) (xs : List X) (d : X) → k < length xs → set (mapped f k xs) k (f (get_or xs k d)) ≡ mapped f (suc k) xs
unfolding mapped
next_set f zero [] d less = absurd (omega (arith, less))
next_set f zero (x ∷ xs) d less = refl
next_set f (suc k) [] d less = absurd (omega (arith, less))
next_set f (suc k) (x ∷ xs) d less = ap (λ ys. f x ∷ ys) (next_set f k xs d (omega (arith, less)))

all_mapped : {X : Type 0} (f : X → X) (k : ℕ) (xs : List X) → length xs ≤ k → mapped f k xs ≡ map f xs
unfolding mapped
all_mapped f zero [] past = refl
all_mapped f zero (x ∷ xs) past = absurd (omega (arith, past))
all_mapped f (suc k) [] past = refl
all_mapped f (suc k) (x ∷ xs) past = ap (λ ys. f x ∷ ys) (all_mapped f k xs (omega (arith, past)))

pub none_mapped : {X : Type 0} (f : X → X) (xs : List X) → IsMapped f 0 xs xs
unfolding mapped
none_mapped f xs = refl

module _ {X : Type 0} (f : X → X) (i : ℕ) (old now : List X) (is : IsMapped f i old now) (d : X) where
  -- what stands at the next place stood there
  pub item_there : i < length now → slice_get old i ≡ Some (get_or now i d)
  item_there less =
      let long = ap length is ∙ mapped_long f i old in
      let same : get_or now i d ≡ get_or old i d = ap (λ xs. get_or xs i d) is ∙ next_there f i old d in
      slice_get-get_or old i d (omega (arith, less, long)) ∙ ap (λ x. Some x) (sym same)

  pub one_mapped : (new : X) → i < length now → new ≡ f (get_or now i d) → IsMapped f (i + 1) old (set now i new)
  one_mapped new less is_new =
      let long = ap length is ∙ mapped_long f i old in
      let same : get_or now i d ≡ get_or old i d = ap (λ xs. get_or xs i d) is ∙ next_there f i old d in
      ap (λ x. set now i x) (is_new ∙ ap f same) ∙ ap (λ xs. set xs i (f (get_or old i d))) is ∙ next_set f i old d (omega (arith, less, long))
      ∙ ap (λ k. mapped f k old) (let e : suc i ≡ i + 1 = omega arith in e)

pub every_mapped : {X : Type 0} (f : X → X) (i : ℕ) (old now : List X) → IsMapped f i old now → length now ≤ i → now ≡ map f old
every_mapped f i old now is past = (let long = ap length is ∙ mapped_long f i old in is ∙ all_mapped f i old (omega (arith, past, long)))
