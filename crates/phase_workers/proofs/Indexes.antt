-- Lists by their indexes.
use Rattle.std.proofs.Common.{◌≡◌, ◌<◌, ◌≤◌, ◌++◌, ℕ, zero, suc, List, [], ◌∷◌, map, length, take, drop, append-nil, Some, Result, Ok, Err, slice_get, slice_set, slice_index_or, refl, ap, sym, ◌∙◌, arith}
use Rattle.std.specs.Prelude.{OnErr, OnOk}
use Rattle.std.specs.Option.{unwrap_or}
use Rattle.std.proofs.lemmas.List.{take_all, drop_all}

pub index_found : {X : Type 0} (xs : List X) (n : ℕ) (d : X) → slice_index_or xs n d ≡ unwrap_or (slice_get xs n) d
index_found [] n d = refl
index_found (x ∷ xs) zero d = refl
index_found (x ∷ xs) (suc n) d = index_found xs n d

pub index_mapped : {X Y : Type 0} (f : X → Y) (xs : List X) (n : ℕ) (x : X) (d : Y) → slice_get xs n ≡ Some x → slice_index_or (map f xs) n d ≡ f x
index_mapped f [] n x d at = cc
index_mapped f (y ∷ xs) zero x d at = (let same : y ≡ x = cc in ap f same)
index_mapped f (y ∷ xs) (suc n) x d at = index_mapped f xs n x d at

pub index_past : {X Y : Type 0} (f : X → Y) (xs : List X) (n : ℕ) (d : Y) → length xs ≤ n → slice_index_or (map f xs) n d ≡ d
index_past f [] n d past = refl
index_past f (y ∷ xs) zero d past = absurd (omega (arith, past))
index_past f (y ∷ xs) (suc n) d past = index_past f xs n d (omega (arith, past))

pub some_at : {X : Type 0} (xs : List X) (i : ℕ) → i < length xs → (x : X) × (slice_get xs i ≡ Some x)
some_at [] i below = absurd (omega (arith, below))
some_at (x ∷ xs) zero below = (x, refl)
some_at (x ∷ xs) (suc i) below = some_at xs i (omega (arith, below))

pub get_set : {X : Type 0} (xs : List X) (at : ℕ) (x : X) → at < length xs → slice_get (slice_set xs at x) at ≡ Some x
get_set [] at x within = absurd (omega (arith, within))
get_set (y ∷ ys) zero x within = refl
get_set (y ∷ ys) (suc at) x within = get_set ys at x (omega (arith, within))

pub get_other : {X : Type 0} (xs : List X) (at : ℕ) (x : X) (other : ℕ) → (other ≡ at → ⊥) → slice_get (slice_set xs at x) other ≡ slice_get xs other
get_other [] at x other differ = refl
get_other (y ∷ ys) zero x zero differ = absurd (differ refl)
get_other (y ∷ ys) zero x (suc other) differ = refl
get_other (y ∷ ys) (suc at) x zero differ = refl
get_other (y ∷ ys) (suc at) x (suc other) differ = get_other ys at x other (λ e. differ (ap suc e))

-- another list with the same items under a function, but for one place
pub map_set : {X Y : Type 0} (f : X → Y) (xs : List X) (at : ℕ) (x y : X) → slice_get xs at ≡ Some y → f x ≡ f y → map f (slice_set xs at x) ≡ map f xs
map_set f [] at x y there same = refl
map_set f (z ∷ xs) zero x y there same = (let is : z ≡ y = cc in ap (λ w. w ∷ map f xs) (same ∙ ap f (sym is)))
map_set f (z ∷ xs) (suc at) x y there same = ap (λ ws. f z ∷ ws) (map_set f xs at x y there same)

pub length_set : {X : Type 0} (xs : List X) (at : ℕ) (x : X) → length (slice_set xs at x) ≡ length xs
length_set [] at x = refl
length_set (y ∷ ys) zero x = refl
length_set (y ∷ ys) (suc at) x = ap suc (length_set ys at x)

-- a vector whose items were written over all at once
pub all_items : {X : Type 0} (len : ℕ) (xs ys : List X) → len ≡ length ys → length xs ≡ length ys → take len (xs ++ drop (length xs) ys) ≡ xs
all_items len xs ys own same =
    ap (λ zs. take len (xs ++ zs)) (drop_all (length xs) ys (omega (arith, same))) ∙ ap (take len) (append-nil xs)
    ∙ take_all len xs (omega (arith, own, same))

-- what an index found is what stands there
pub index_at : {X : Type 0} (xs : List X) (n : ℕ) (x found : X) → slice_get xs n ≡ Some x → found ≡ slice_index_or xs n found → found ≡ x
index_at xs n x found at is = is ∙ index_found xs n found ∙ ap (λ o. unwrap_or o found) at

-- what holds where a call went well, or where it failed

pub on_ok : {T E P Q : Type 0} (result : Result T E) → (P → Q) → OnOk result P → OnOk result Q
on_ok (Ok x) goes holds = goes holds
on_ok (Err e) goes holds = holds

pub on_err : {T E P Q : Type 0} (result : Result T E) → (P → Q) → OnErr result P → OnErr result Q
on_err (Ok x) goes holds = holds
on_err (Err e) goes holds = goes holds
