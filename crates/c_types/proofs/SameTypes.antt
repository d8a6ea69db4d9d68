-- `is_same` decides whether two types are equal.
use Rattle.std.proofs.Common.{◌≡◌, ℕ, List, [], ◌∷◌, map, refl, ap, sym, subst, ◌∙◌, Bool, true}
use Rattle.std.specs.Bool.{Decides}
use Rattle.std.proofs.lemmas.Bool.{eqb-true, eq-eqb, and_parts, and_from, false≢true}
use Rattle.hume_base.specs.declared.types.Ty.{Ty, out-Ty, roll-Ty, out-roll-Ty, roll-out-Ty, fold-roll-Ty, ind-Ty, map-Ty}
use Rattle.hume_base.specs.declared.types.Ty.TheOpen.{Ty-F}
use Rattle.c_types.specs.inner.SameTypes.{is_same, same_step, all_same, is_bool, is_char, is_int, is_nat, is_tuple, is_vector, is_named}

abbrev Decided : Ty → Type 0
Decided left = (right : Ty) → Decides (is_same left right) (left ≡ right)

abbrev Parts : Type 0
Parts = Ty-F ((ty : Ty) × Decided ty)

abbrev types : List ((ty : Ty) × Decided ty) → List Ty
types parts = map (λ part. part.0) parts

all_true : (parts : List ((ty : Ty) × Decided ty)) (others : List Ty) → all_same (map is_same (types parts)) others ≡ true → types parts ≡ others
all_true [] [] h = refl
all_true [] (other ∷ others) h = absurd (false≢true h)
all_true (part ∷ parts) [] h = absurd (false≢true h)
all_true (part ∷ parts) (other ∷ others) h =
    let both = and_parts _ _ h in let first = (part.1 other).0 both.0 in let later = all_true parts others both.1 in cc

all_from : (parts : List ((ty : Ty) × Decided ty)) → all_same (map is_same (types parts)) (types parts) ≡ true
all_from [] = refl
all_from (part ∷ parts) = and_from _ _ ((part.1 part.0).1 refl) (all_from parts)

bool_true : (layer : Ty-F Ty) → is_bool layer ≡ true → Ty-F.Bool ≡ layer
bool_true Ty-F.Bool h = refl
bool_true _ h = absurd (false≢true h)

char_true : (layer : Ty-F Ty) → is_char layer ≡ true → Ty-F.Char ≡ layer
char_true Ty-F.Char h = refl
char_true _ h = absurd (false≢true h)

int_true : (bits : ℕ) (layer : Ty-F Ty) → is_int bits layer ≡ true → Ty-F.Int bits ≡ layer
int_true bits (Ty-F.Int other) h = ap Ty-F.Int (eqb-true bits other h)
int_true bits _ h = absurd (false≢true h)

nat_true : (bits : ℕ) (layer : Ty-F Ty) → is_nat bits layer ≡ true → Ty-F.Nat bits ≡ layer
nat_true bits (Ty-F.Nat other) h = ap Ty-F.Nat (eqb-true bits other h)
nat_true bits _ h = absurd (false≢true h)

tuple_true : (parts : List ((ty : Ty) × Decided ty)) (layer : Ty-F Ty) → is_tuple (map is_same (types parts)) layer ≡ true → Ty-F.Tuple (types parts) ≡ layer
tuple_true parts (Ty-F.Tuple others) h = ap Ty-F.Tuple (all_true parts others h)
tuple_true parts _ h = absurd (false≢true h)

vector_true : (count : ℕ) (item : (ty : Ty) × Decided ty) (layer : Ty-F Ty) → is_vector count (is_same item.0) layer ≡ true → Ty-F.Vector count item.0 ≡ layer
vector_true count item (Ty-F.Vector many other) h =
    let both = and_parts _ _ h in let counts : count ≡ many = eqb-true count many both.0 in let items = (item.1 other).0 both.1 in cc
vector_true count item _ h = absurd (false≢true h)

named_true : (number : ℕ) (layer : Ty-F Ty) → is_named number layer ≡ true → Ty-F.Named number ≡ layer
named_true number (Ty-F.Named other) h = ap Ty-F.Named (eqb-true number other h)
named_true number _ h = absurd (false≢true h)

abbrev of_types : Parts → Ty-F Ty
of_types parts = map-Ty ((ty : Ty) × Decided ty) Ty (λ part. part.0) parts

abbrev tests : Parts → Ty-F (Ty → Bool)
tests parts = map-Ty Ty (Ty → Bool) is_same (of_types parts)

-- one level, with the parts decided
level_true : (parts : Parts) (other : Ty) → same_step (tests parts) other ≡ true → of_types parts ≡ out-Ty other
level_true Ty-F.Bool other h = bool_true (out-Ty other) h
level_true Ty-F.Char other h = char_true (out-Ty other) h
level_true (Ty-F.Int bits) other h = int_true bits (out-Ty other) h
level_true (Ty-F.Nat bits) other h = nat_true bits (out-Ty other) h
level_true (Ty-F.Tuple parts) other h = tuple_true parts (out-Ty other) h
level_true (Ty-F.Vector count item) other h = vector_true count item (out-Ty other) h
level_true (Ty-F.Named number) other h = named_true number (out-Ty other) h

level_from : (parts : Parts) → same_step (tests parts) (roll-Ty (of_types parts)) ≡ true
level_from Ty-F.Bool = ap is_bool (out-roll-Ty Ty-F.Bool)
level_from Ty-F.Char = ap is_char (out-roll-Ty Ty-F.Char)
level_from (Ty-F.Int bits) = ap (is_int bits) (out-roll-Ty (Ty-F.Int bits)) ∙ eq-eqb bits bits refl
level_from (Ty-F.Nat bits) = ap (is_nat bits) (out-roll-Ty (Ty-F.Nat bits)) ∙ eq-eqb bits bits refl
level_from (Ty-F.Tuple parts) = ap (is_tuple (map is_same (types parts))) (out-roll-Ty (Ty-F.Tuple (types parts))) ∙ all_from parts
level_from (Ty-F.Vector count item) =
    ap (is_vector count (is_same item.0)) (out-roll-Ty (Ty-F.Vector count item.0)) ∙ and_from _ _ (eq-eqb count count refl) ((item.1 item.0).1 refl)
level_from (Ty-F.Named number) = ap (is_named number) (out-roll-Ty (Ty-F.Named number)) ∙ eq-eqb number number refl

decided_level : (parts : Parts) → Decided (roll-Ty (of_types parts))
decided_level parts other =
    let opened = ap (λ f. f other) (fold-roll-Ty (Ty → Bool) same_step (of_types parts)) in (
      λ h. ap roll-Ty (level_true parts other (sym opened ∙ h)) ∙ roll-out-Ty other,
      λ e. subst (λ t. is_same (roll-Ty (of_types parts)) t ≡ true) e
          (ap (λ f. f (roll-Ty (of_types parts))) (fold-roll-Ty (Ty → Bool) same_step (of_types parts)) ∙ level_from parts),
    )

pub is_same-Decides : (left right : Ty) → Decides (is_same left right) (left ≡ right)
is_same-Decides = ind-Ty Decided (λ x y is. subst (λ t. Decided (roll-Ty t)) is (decided_level y))
