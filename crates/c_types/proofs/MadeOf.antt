-- What types are made of, form by form, and how one list after another is taken in.
use Rattle.std.proofs.Common.{◌≡◌, ℕ, List, [], ◌∷◌, ◌++◌, map, refl, ap, sym, subst, ◌∙◌}
use Rattle.std.specs.List.{flat_map}
use Rattle.std.proofs.lemmas.Grind.{common_steps}
use Rattle.hume_base.specs.declared.types.Ty.{Ty, roll-Ty, fold-Ty, fold-roll-Ty, ind-Ty, map-Ty}
use Rattle.hume_base.specs.declared.types.Ty.TheOpen.{Ty-F}
use Rattle.hume_base.specs.declared.types.Ty.TheVariants as ty
use Rattle.c_types.specs.Gathered.{Made, made_step, made_of, with_type, with_each, added}

abbrev made : Ty → Made
made = fold-Ty Made made_step

abbrev IsRooted : Ty → Type 0
IsRooted it = (made it).0 ≡ it

abbrev Parts : Type 0
Parts = Ty-F ((it : Ty) × IsRooted it)

abbrev types : List ((it : Ty) × IsRooted it) → List Ty
types parts = map (λ part. part.0) parts

abbrev of_types : Parts → Ty-F Ty
of_types parts = map-Ty ((it : Ty) × IsRooted it) Ty (λ part. part.0) parts

rooted_parts : (parts : List ((it : Ty) × IsRooted it)) → map (λ (part : Made). part.0) (map made (types parts)) ≡ types parts
rooted_parts [] = refl
rooted_parts (part ∷ parts) = let first = part.1 in let later = rooted_parts parts in cc

rooted_level : (parts : Parts) → (made_step (map-Ty Ty Made made (of_types parts))).0 ≡ roll-Ty (of_types parts)
rooted_level Ty-F.Bool = sym ty.rolls-Bool
rooted_level Ty-F.Char = sym ty.rolls-Char
rooted_level (Ty-F.Int bits) = sym (ty.rolls-Int bits)
rooted_level (Ty-F.Nat bits) = sym (ty.rolls-Nat bits)
rooted_level (Ty-F.Tuple parts) = ap ty.Tuple (rooted_parts parts) ∙ sym (ty.rolls-Tuple (types parts))
rooted_level (Ty-F.Vector count item) = ap (ty.Vector count) item.1 ∙ sym (ty.rolls-Vector count item.0)
rooted_level (Ty-F.Named number) = sym (ty.rolls-Named number)

rooted_one : (parts : Parts) → IsRooted (roll-Ty (of_types parts))
rooted_one parts = ap (λ (m : Made). m.0) (fold-roll-Ty Made made_step (of_types parts)) ∙ rooted_level parts

-- a type with what it is made of is that type
rooted : (it : Ty) → IsRooted it
rooted = ind-Ty IsRooted (λ x y is. subst (λ t. IsRooted (roll-Ty t)) is (rooted_one y))

all_rooted : (parts : List Ty) → map (λ (part : Made). part.0) (map made parts) ≡ parts
all_rooted [] = refl
all_rooted (part ∷ parts) = let first = rooted part in let later = all_rooted parts in cc

all_made : (parts : List Ty) → flat_map (λ (part : Made). part.1) (map made parts) ≡ flat_map made_of parts
all_made [] = refl
all_made (part ∷ parts) = ap (λ tys. made_of part ++ tys) (all_made parts)

form : (it : Ty) (x : Ty-F Ty) → roll-Ty x ≡ it → made_of it ≡ (made_step (map-Ty Ty Made made x)).1
form it x is = ap made_of (sym is) ∙ ap (λ (m : Made). m.1) (fold-roll-Ty Made made_step x)

made_tuple : (parts : List Ty) → made_of (ty.Tuple parts) ≡ flat_map made_of parts ++ ty.Tuple parts ∷ []
made_tuple parts = form _ (Ty-F.Tuple parts) (ty.rolls-Tuple parts)
    ∙ ap (λ tys. flat_map (λ (part : Made). part.1) (map made parts) ++ ty.Tuple tys ∷ []) (all_rooted parts)
    ∙ ap (λ tys. tys ++ ty.Tuple parts ∷ []) (all_made parts)

made_vector : (count : ℕ) (item : Ty) → made_of (ty.Vector count item) ≡ made_of item ++ ty.Vector count item ∷ []
made_vector count item = form _ (Ty-F.Vector count item) (ty.rolls-Vector count item) ∙ ap (λ t. made_of item ++ ty.Vector count t ∷ []) (rooted item)

pub with_both : (tys first later : List Ty) → with_each tys (first ++ later) ≡ with_each (with_each tys first) later
with_both tys [] later = refl
with_both tys (one ∷ first) later = with_both (with_type tys one) first later

pub added_bool : (tys : List Ty) → added tys ty.Bool ≡ tys
added_bool tys = ap (with_each tys) (form _ Ty-F.Bool ty.rolls-Bool)

pub added_char : (tys : List Ty) → added tys ty.Char ≡ tys
added_char tys = ap (with_each tys) (form _ Ty-F.Char ty.rolls-Char)

pub added_int : (tys : List Ty) (bits : ℕ) → added tys (ty.Int bits) ≡ tys
added_int tys bits = ap (with_each tys) (form _ (Ty-F.Int bits) (ty.rolls-Int bits))

pub added_nat : (tys : List Ty) (bits : ℕ) → added tys (ty.Nat bits) ≡ tys
added_nat tys bits = ap (with_each tys) (form _ (Ty-F.Nat bits) (ty.rolls-Nat bits))

pub added_named : (tys : List Ty) (number : ℕ) → added tys (ty.Named number) ≡ tys
added_named tys number = ap (with_each tys) (form _ (Ty-F.Named number) (ty.rolls-Named number))

pub added_tuple : (tys : List Ty) (parts : List Ty)
    → added tys (ty.Tuple parts) ≡ with_type (with_each tys (flat_map made_of parts)) (ty.Tuple parts)
added_tuple tys parts = ap (with_each tys) (made_tuple parts) ∙ with_both tys (flat_map made_of parts) (ty.Tuple parts ∷ [])

pub added_vector : (tys : List Ty) (count : ℕ) (item : Ty) → added tys (ty.Vector count item) ≡ with_type (added tys item) (ty.Vector count item)
added_vector tys count item = ap (with_each tys) (made_vector count item) ∙ with_both tys (made_of item) (ty.Vector count item ∷ [])

pub ruleset made_steps = (common_steps, with_both, added_bool, added_char, added_int, added_nat, added_named, added_tuple, added_vector)
