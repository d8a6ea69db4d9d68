-- What a search in a list finds.
use Rattle.std.proofs.Common.{◌≡◌, List, [], ◌∷◌, Bool, true, false, cond, Some, sym, ap, ◌∙◌, ◌⊎◌, inl, inr, refl}
use Rattle.std.specs.List.{find, filter}

-- which side a choice took
pub chosen : {A : Type 0} (b : Bool) (x y z : A) → cond b x y ≡ z → ((b ≡ true) × (x ≡ z)) ⊎ ((b ≡ false) × (y ≡ z))
chosen true x y z e = inl (refl, e)
chosen false x y z e = inr (refl, e)

split : (b : Bool) → (b ≡ true) ⊎ (b ≡ false)
split true = inl refl
split false = inr refl

pub find_passes : {A : Type 0} (p : A → Bool) (xs : List A) (x : A) → find p xs ≡ Some x → p x ≡ true
find_passes p [] x e = cc
find_passes p (y ∷ ys) x e = elim (chosen (p y) (Some y) (find p ys) (Some x) e) [
  | inl h ↦ (let same : y ≡ x = (let f = h.1 in cc) in ap p (sym same) ∙ h.0)
  | inr h ↦ find_passes p ys x h.1
]

-- a search finds the same among those that pass a test, where each that it may find passes
pub find_in_filter : {A : Type 0} (p q : A → Bool) → ((x : A) → p x ≡ true → q x ≡ true) → (xs : List A) → find p (filter q xs) ≡ find p xs
find_in_filter p q passes [] = refl
find_in_filter p q passes (x ∷ xs) = elim (split (p x)) [
  | inl found ↦ rw (passes x found, found) refl
  | inr other ↦ elim (split (q x)) [
    | inl kept ↦ rw (kept, other) (find_in_filter p q passes xs)
    | inr left_out ↦ rw (left_out, other) (find_in_filter p q passes xs)
  ]
]
