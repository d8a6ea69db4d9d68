-- `is_same` decides whether two types are equal.
use Rattle.std.proofs.Common.{◌≡◌, ℕ, List, [], ◌∷◌, map, refl, ap, sym, subst, ◌∙◌, Bool, true}
use Rattle.std.specs.Bool.{Decides}
use Rattle.std.proofs.lemmas.Bool.{eqb-true, eq-eqb, and_parts, and_from, false≢true}
use Rattle.hume_base.specs.declared.types.Ty.{Ty, out-Ty, roll-Ty, out-roll-Ty, roll-out-Ty, fold-roll-Ty, ind-Ty, map-Ty}
use Rattle.hume_base.specs.declared.types.Ty.TheOpen.{Ty-F}
use Rattle.check_typing.specs.Patterns.{is_bool, is_char, is_named}
use Rattle.check_typing.specs.inner.SameTypes.{is_same, same_step, all_same, is_int, is_nat, is_tuple, is_vector}

abbrev Decided : Ty → Type 0
Decided t = (u : Ty) → Decides (is_same t u) (t ≡ u)

all_true : (ts : List ((t : Ty) × Decided t)) (us : List Ty) → all_same (map is_same (map (λ e. e.0) ts)) us ≡ true → map (λ e. e.0) ts ≡ us
all_true [] [] h = refl
all_true [] (u ∷ us) h = absurd (false≢true h)
all_true (t ∷ ts) [] h = absurd (false≢true h)
all_true (t ∷ ts) (u ∷ us) h = let p = and_parts _ _ h in let a = (t.1 u).0 p.0 in let b = all_true ts us p.1 in cc

all_from : (ts : List ((t : Ty) × Decided t)) → all_same (map is_same (map (λ e. e.0) ts)) (map (λ e. e.0) ts) ≡ true
all_from [] = refl
all_from (t ∷ ts) = and_from _ _ ((t.1 t.0).1 refl) (all_from ts)

pub bool_true : (layer : Ty-F Ty) → is_bool layer ≡ true → Ty-F.Bool ≡ layer
bool_true Ty-F.Bool h = refl
bool_true _ h = absurd (false≢true h)

pub char_true : (layer : Ty-F Ty) → is_char layer ≡ true → Ty-F.Char ≡ layer
char_true Ty-F.Char h = refl
char_true _ h = absurd (false≢true h)

int_true : (n : ℕ) (layer : Ty-F Ty) → is_int n layer ≡ true → Ty-F.Int n ≡ layer
int_true n (Ty-F.Int m) h = ap Ty-F.Int (eqb-true n m h)
int_true n _ h = absurd (false≢true h)

nat_true : (n : ℕ) (layer : Ty-F Ty) → is_nat n layer ≡ true → Ty-F.Nat n ≡ layer
nat_true n (Ty-F.Nat m) h = ap Ty-F.Nat (eqb-true n m h)
nat_true n _ h = absurd (false≢true h)

tuple_true : (ts : List ((t : Ty) × Decided t)) (layer : Ty-F Ty) → is_tuple (map is_same (map (λ e. e.0) ts)) layer ≡ true
    → Ty-F.Tuple (map (λ e. e.0) ts) ≡ layer
tuple_true ts (Ty-F.Tuple us) h = ap Ty-F.Tuple (all_true ts us h)
tuple_true ts _ h = absurd (false≢true h)

vector_true : (n : ℕ) (t : (t : Ty) × Decided t) (layer : Ty-F Ty) → is_vector n (is_same t.0) layer ≡ true → Ty-F.Vector n t.0 ≡ layer
vector_true n t (Ty-F.Vector m u) h = let p = and_parts _ _ h in let a : n ≡ m = eqb-true n m p.0 in let b = (t.1 u).0 p.1 in cc
vector_true n t _ h = absurd (false≢true h)

pub named_true : (n : ℕ) (layer : Ty-F Ty) → is_named n layer ≡ true → Ty-F.Named n ≡ layer
named_true n (Ty-F.Named m) h = ap Ty-F.Named (eqb-true n m h)
named_true n _ h = absurd (false≢true h)

abbrev parts : Ty-F ((t : Ty) × Decided t) → Ty-F Ty
parts y = map-Ty ((t : Ty) × Decided t) Ty (λ e. e.0) y

abbrev tests : Ty-F Ty → Ty-F (Ty → Bool)
tests x = map-Ty Ty (Ty → Bool) is_same x

-- one level, with the parts decided
level_true : (y : Ty-F ((t : Ty) × Decided t)) (u : Ty) → same_step (tests (parts y)) u ≡ true → parts y ≡ out-Ty u
level_true Ty-F.Bool u h = bool_true (out-Ty u) h
level_true Ty-F.Char u h = char_true (out-Ty u) h
level_true (Ty-F.Int n) u h = int_true n (out-Ty u) h
level_true (Ty-F.Nat n) u h = nat_true n (out-Ty u) h
level_true (Ty-F.Tuple ts) u h = tuple_true ts (out-Ty u) h
level_true (Ty-F.Vector n t) u h = vector_true n t (out-Ty u) h
level_true (Ty-F.Named k) u h = named_true k (out-Ty u) h

level_from : (y : Ty-F ((t : Ty) × Decided t)) → same_step (tests (parts y)) (roll-Ty (parts y)) ≡ true
level_from Ty-F.Bool = ap is_bool (out-roll-Ty Ty-F.Bool)
level_from Ty-F.Char = ap is_char (out-roll-Ty Ty-F.Char)
level_from (Ty-F.Int n) = ap (is_int n) (out-roll-Ty (Ty-F.Int n)) ∙ eq-eqb n n refl
level_from (Ty-F.Nat n) = ap (is_nat n) (out-roll-Ty (Ty-F.Nat n)) ∙ eq-eqb n n refl
level_from (Ty-F.Tuple ts) = ap (is_tuple (map is_same (map (λ e. e.0) ts))) (out-roll-Ty (Ty-F.Tuple (map (λ e. e.0) ts))) ∙ all_from ts
level_from (Ty-F.Vector n t) = ap (is_vector n (is_same t.0)) (out-roll-Ty (Ty-F.Vector n t.0)) ∙ and_from _ _ (eq-eqb n n refl) ((t.1 t.0).1 refl)
level_from (Ty-F.Named k) = ap (is_named k) (out-roll-Ty (Ty-F.Named k)) ∙ eq-eqb k k refl

decided_level : (y : Ty-F ((t : Ty) × Decided t)) → Decided (roll-Ty (parts y))
decided_level y u =
    let one : is_same (roll-Ty (parts y)) u ≡ same_step (tests (parts y)) u = ap (λ f. f u) (fold-roll-Ty (Ty → Bool) same_step (parts y)) in (
      λ h. ap roll-Ty (level_true y u (sym one ∙ h))
          ∙ roll-out-Ty u,
      λ e. subst (λ w. is_same (roll-Ty (parts y)) w ≡ true) e (ap (λ f. f (roll-Ty (parts y))) (fold-roll-Ty (Ty → Bool) same_step (parts y))
          ∙ level_from y),
    )

pub is_same-Decides : (t u : Ty) → Decides (is_same t u) (t ≡ u)
is_same-Decides = ind-Ty Decided (λ x y is. subst (λ x. Decided (roll-Ty x)) is (decided_level y))
