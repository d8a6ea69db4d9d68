-- The values that are taken out of slots.
use Rattle.std.proofs.Common.{◌≡◌, ℕ, zero, suc, ◌+◌, ◌<◌, Bool, false, List, [], ◌∷◌, ◌++◌, map, take, set, get_or, slice_get, Option, Some, refl, ap, sym, ◌∙◌, arith, get_or-set_other}
use Rattle.std.specs.Slots.Ownership.{Filled}
use mathlib.Core.Logic.{dite}
use native.Mathlib.Decide.{ℕ_discrete}
use mathlib.Core.Option.{some, some-injective, some-ne-none}
use lib.ListN.{get_elem?}

pub value_there : {T : Type 0} (values : List T) (i : ℕ) (x : T) → get_elem? (map Some values) i ≡ some (Some x) → slice_get values i ≡ Some x
value_there [] i x e = absurd (some-ne-none (Some x) (sym e))
value_there (y ∷ ys) zero x e = some-injective (Some y) (Some x) e
value_there (y ∷ ys) (suc i) x e = value_there ys i x e

-- one value more was taken
pub one_more : {T : Type 0} (slots : List (Option T)) (room : List T) (i : ℕ) (x : T) → map Some room ≡ take i slots → get_elem? slots i ≡ some (Some x)
    → map Some (room ++ x ∷ []) ≡ take (i + 1) slots
one_more {T} slots room i x taken at = map_snoc room
    ∙ (ap (λ xs. xs ++ Some x ∷ []) taken ∙ (sym (take_snoc slots i at) ∙ ap (λ n. take n slots) (let e : suc i ≡ i + 1 = omega arith in e)))
  where
    map_snoc : (xs : List T) → map Some (xs ++ x ∷ []) ≡ map Some xs ++ Some x ∷ []
    map_snoc [] = refl
    map_snoc (y ∷ ys) = ap (λ zs. Some y ∷ zs) (map_snoc ys)

    take_snoc : (xs : List (Option T)) (i : ℕ) → get_elem? xs i ≡ some (Some x) → take (suc i) xs ≡ take i xs ++ Some x ∷ []
    take_snoc [] i e = absurd (some-ne-none (Some x) (sym e))
    take_snoc (y ∷ ys) zero e = ap (λ z. z ∷ []) (some-injective y (Some x) e)
    take_snoc (y ∷ ys) (suc i) e = ap (λ zs. y ∷ zs) (take_snoc ys i e)

-- one slot more is empty
pub filled_less : (filled filled' : List Bool) (i n n' : ℕ) → filled' ≡ set filled i false → n' ≡ n → Filled filled i n → Filled filled' (i + 1) n'
filled_less filled filled' i n n' emptied same left k le lt =
    ap (λ f. get_or f k false) emptied
    ∙ (get_or-set_other filled i k false false (λ e. omega (arith, e, le)) ∙ left k (omega (arith, le)) (omega (arith, lt, same)))

pub emptied_more : (filled filled' : List Bool) (i : ℕ) → filled' ≡ set filled i false → ((k : ℕ) → k < i → get_or filled k false ≡ false) → (k : ℕ)
    → k < i + 1 → get_or filled' k false ≡ false
emptied_more filled filled' i emptied gone k lt = ap (λ f. get_or f k false) emptied ∙ dite (ℕ_discrete k i)
    (λ e. ap (λ j. get_or (set filled i false) j false) e ∙ cleared filled i)
    (λ other. get_or-set_other filled i k false false other ∙ gone k (omega (arith, lt, other)))
  where
    cleared : (l : List Bool) (i : ℕ) → get_or (set l i false) i false ≡ false
    cleared [] i = refl
    cleared (x ∷ xs) zero = refl
    cleared (x ∷ xs) (suc i) = cleared xs i
