-- What types are made of, form by form.
use Rattle.std.proofs.Common.{◌≡◌, ℕ, ◌+◌, Bool, true, false, ◌||◌, List, [], ◌∷◌, ◌++◌, Option, Some, map, is_some, refl, ap, sym, subst, ◌∙◌, if◌then◌else◌}
use Rattle.std.specs.List.{flat_map, list_any}
use Rattle.std.proofs.lemmas.Grind.{common_steps}
use Rattle.hume_base.specs.declared.types.Ty.{Ty, roll-Ty, fold-Ty, fold-roll-Ty, ind-Ty, map-Ty}
use Rattle.hume_base.specs.declared.types.Ty.TheOpen.{Ty-F}
use Rattle.hume_base.specs.declared.types.Ty.TheVariants as ty
use Rattle.c_types.specs.Gathered.{Made, with_each, with_type}
use Rattle.c_types.specs.inner.SameTypes.{is_same}
use Rattle.c_types.proofs.MadeOf.{with_both}
use Rattle.c_main.specs.Found.{parts_of, parts_step, place_from}

abbrev made : Ty → Made
made = fold-Ty Made parts_step

abbrev IsRooted : Ty → Type 0
IsRooted it = (made it).0 ≡ it

abbrev Parts : Type 0
Parts = Ty-F ((it : Ty) × IsRooted it)

abbrev types : List ((it : Ty) × IsRooted it) → List Ty
types parts = map (λ part. part.0) parts

abbrev of_types : Parts → Ty-F Ty
of_types parts = map-Ty ((it : Ty) × IsRooted it) Ty (λ part. part.0) parts

rooted_parts : (parts : List ((it : Ty) × IsRooted it)) → map (λ (part : Made). part.0) (map made (types parts)) ≡ types parts
rooted_parts [] = refl
rooted_parts (part ∷ parts) = let first = part.1 in let later = rooted_parts parts in cc

rooted_level : (parts : Parts) → (parts_step (map-Ty Ty Made made (of_types parts))).0 ≡ roll-Ty (of_types parts)
rooted_level Ty-F.Bool = sym ty.rolls-Bool
rooted_level Ty-F.Char = sym ty.rolls-Char
rooted_level (Ty-F.Int bits) = sym (ty.rolls-Int bits)
rooted_level (Ty-F.Nat bits) = sym (ty.rolls-Nat bits)
rooted_level (Ty-F.Tuple parts) = ap ty.Tuple (rooted_parts parts) ∙ sym (ty.rolls-Tuple (types parts))
rooted_level (Ty-F.Vector count item) = ap (ty.Vector count) item.1 ∙ sym (ty.rolls-Vector count item.0)
rooted_level (Ty-F.Named number) = sym (ty.rolls-Named number)

rooted_one : (parts : Parts) → IsRooted (roll-Ty (of_types parts))
rooted_one parts = ap (λ (m : Made). m.0) (fold-roll-Ty Made parts_step (of_types parts)) ∙ rooted_level parts

-- a type with what it is made of is that type
rooted : (it : Ty) → IsRooted it
rooted = ind-Ty IsRooted (λ x y is. subst (λ t. IsRooted (roll-Ty t)) is (rooted_one y))

all_rooted : (parts : List Ty) → map (λ (part : Made). part.0) (map made parts) ≡ parts
all_rooted [] = refl
all_rooted (part ∷ parts) = let first = rooted part in let later = all_rooted parts in cc

all_made : (parts : List Ty) → flat_map (λ (part : Made). part.1) (map made parts) ≡ flat_map parts_of parts
all_made [] = refl
all_made (part ∷ parts) = ap (λ tys. parts_of part ++ tys) (all_made parts)

form : (it : Ty) (x : Ty-F Ty) → roll-Ty x ≡ it → parts_of it ≡ (parts_step (map-Ty Ty Made made x)).1
form it x is = ap parts_of (sym is) ∙ ap (λ (m : Made). m.1) (fold-roll-Ty Made parts_step x)

pub parts_bool : parts_of ty.Bool ≡ ty.Bool ∷ []
parts_bool = form _ Ty-F.Bool ty.rolls-Bool

pub parts_char : parts_of ty.Char ≡ ty.Char ∷ []
parts_char = form _ Ty-F.Char ty.rolls-Char

pub parts_int : (bits : ℕ) → parts_of (ty.Int bits) ≡ ty.Int bits ∷ []
parts_int bits = form _ (Ty-F.Int bits) (ty.rolls-Int bits)

pub parts_nat : (bits : ℕ) → parts_of (ty.Nat bits) ≡ ty.Nat bits ∷ []
parts_nat bits = form _ (Ty-F.Nat bits) (ty.rolls-Nat bits)

pub parts_named : (number : ℕ) → parts_of (ty.Named number) ≡ []
parts_named number = form _ (Ty-F.Named number) (ty.rolls-Named number)

pub parts_tuple : (parts : List Ty) → parts_of (ty.Tuple parts) ≡ flat_map parts_of parts ++ ty.Tuple parts ∷ []
parts_tuple parts = form _ (Ty-F.Tuple parts) (ty.rolls-Tuple parts)
    ∙ ap (λ tys. flat_map (λ (part : Made). part.1) (map made parts) ++ ty.Tuple tys ∷ []) (all_rooted parts)
    ∙ ap (λ tys. tys ++ ty.Tuple parts ∷ []) (all_made parts)

pub parts_vector : (count : ℕ) (item : Ty) → parts_of (ty.Vector count item) ≡ parts_of item ++ ty.Vector count item ∷ []
parts_vector count item = form _ (Ty-F.Vector count item) (ty.rolls-Vector count item) ∙ ap (λ t. parts_of item ++ ty.Vector count t ∷ []) (rooted item)

there_or : (b rest : Bool) (place : ℕ) (found : Option ℕ) → is_some found ≡ rest → is_some (if b then Some place else found) ≡ (b || rest)
there_or true rest place found is = refl
there_or false rest place found is = is

-- a type that has a place is among the types
pub found_there : (place : ℕ) (it : Ty) (tys : List Ty) → is_some (place_from place it tys) ≡ list_any (λ other. is_same other it) tys
found_there place it [] = refl
found_there place it (first ∷ others) =
    there_or (is_same first it) (list_any (λ other. is_same other it) others) place (place_from (place + 1) it others) (found_there (place + 1) it others)

pub ruleset part_steps =
    (common_steps, with_both, parts_bool, parts_char, parts_int, parts_nat, parts_named, parts_tuple, parts_vector, found_there)
