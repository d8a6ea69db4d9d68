-- What stands in the places of a list is one list, where one thing belongs in each place.
use Rattle.std.proofs.Common.{◌≡◌, ℕ, suc, List, [], ◌∷◌, slice_get, map, refl}
use Rattle.check_typing.specs.Declarations.{InPlaces}

pub in_place_once : {A B : Type 0} (R : A → B → Type 0) → ((x : A) (y z : B) → R x y → R x z → y ≡ z) → (xs : List A) (ys zs : List B) → InPlaces R xs ys → InPlaces R xs zs → ys ≡ zs
in_place_once R once [] [] [] p q = refl
in_place_once R once [] [] (z ∷ zs) p q = absurd q
in_place_once R once [] (y ∷ ys) zs p q = absurd p
in_place_once R once (x ∷ xs) [] zs p q = absurd p
in_place_once R once (x ∷ xs) (y ∷ ys) [] p q = absurd q
in_place_once R once (x ∷ xs) (y ∷ ys) (z ∷ zs) p q = λ i. once x y z p.0 q.0 i ∷ in_place_once R once xs ys zs p.1 q.1 i

-- what is seen of things that stand in the places of one list
pub seen_once : {A B C : Type 0} (R S : A → B → Type 0) (see : B → C) → ((x : A) (y z : B) → R x y → S x z → see y ≡ see z) → (xs : List A) (ys zs : List B)
    → InPlaces R xs ys → InPlaces S xs zs → map see ys ≡ map see zs
seen_once R S see once [] [] [] p q = refl
seen_once R S see once [] [] (z ∷ zs) p q = absurd q
seen_once R S see once [] (y ∷ ys) zs p q = absurd p
seen_once R S see once (x ∷ xs) [] zs p q = absurd p
seen_once R S see once (x ∷ xs) (y ∷ ys) [] p q = absurd q
seen_once R S see once (x ∷ xs) (y ∷ ys) (z ∷ zs) p q = λ i. once x y z p.0 q.0 i ∷ seen_once R S see once xs ys zs p.1 q.1 i

-- lists with the same things in the same places
pub same_lists : {A : Type 0} (xs ys : List A) → ((n : ℕ) → slice_get xs n ≡ slice_get ys n) → xs ≡ ys
same_lists [] [] h = refl
same_lists [] (y ∷ ys) h = let e = h 0 in cc
same_lists (x ∷ xs) [] h = let e = h 0 in cc
same_lists (x ∷ xs) (y ∷ ys) h =
    let first : x ≡ y = let e = h 0 in cc in
    λ i. first i ∷ same_lists xs ys (λ n. h (suc n)) i
