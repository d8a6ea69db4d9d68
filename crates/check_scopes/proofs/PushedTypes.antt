-- Types that are written, one after the other and as one tuple.
use Rattle.std.proofs.Common.{◌≡◌, ℕ, suc, List, [], ◌∷◌, ◌++◌, map, length, take, drop, reverse, Option, Some, None, refl, ap, sym, ◌∙◌}
use Rattle.std.proofs.lemmas.Grind.{common_steps}
use Rattle.std.proofs.lemmas.List.{length-map}
use Rattle.hume_base.specs.declared.types.Ty.{Ty, Tuple as TupleTy, the_lemmas as ty_lemmas}
use Rattle.hume_ast.specs.declared.tree.TyExp.{TyExp, the_lemmas as type_lemmas}
use Rattle.check_typing.specs.Partial.{given}
use Rattle.check_typing.specs.WrittenTypes.{all_there, written, all_written}
use Rattle.check_typing.specs.declared.signatures.Signatures.{Signatures}
use Rattle.check_typing.proofs.Maybe.{given-inv, some-same}
use Rattle.check_scopes.specs.Known.{Known, with_type}
use Rattle.check_scopes.specs.Written.{with_written, with_written_tuple}
use Rattle.check_scopes.specs.inner.OneByOne.{with_each_written}
use Rattle.check_scopes.proofs.Keeping.{taken_back, left_below, reverse_more}

pub given_some : {A B : Type 0} (o : Option A) (x : A) (f : A → Option B) → o ≡ Some x → given o f ≡ f x
given_some o x f h = ap (λ p. given p f) h

pub given_none : {A B : Type 0} (o : Option A) (f : A → Option B) → o ≡ None → given o f ≡ None
given_none o f h = ap (λ p. given p f) h

all_there_length : {A : Type 0} (os : List (Option A)) (xs : List A) → all_there os ≡ Some xs → length xs ≡ length os
all_there_length [] xs h = sym (ap length (some-same _ _ h))
all_there_length (None ∷ os) xs h = cc
all_there_length (Some x ∷ os) xs h =
    let k = given-inv (all_there os) (λ others. Some (x ∷ others)) xs h in
    sym (ap length (some-same _ _ k.2)) ∙ ap suc (all_there_length os k.0 k.1)

-- several types on the stack, the last of them last
abbrev with_types : List Ty → Known → Known
with_types tys known = (known.0, reverse tys ++ known.1, known.2)

one_more : (o : Option Ty) (others : Signatures → Option (List Ty)) (known : Known)
    → given (given o (λ ty. Some (with_type ty known))) (λ next. given (others next.2) (λ tys. Some (with_types tys next)))
    ≡ given (given o (λ first. given (others known.2) (λ tys. Some (first ∷ tys)))) (λ tys. Some (with_types tys known))
one_more None others known = refl
one_more (Some ty) others known = behind (others known.2)
  where
    behind : (os : Option (List Ty)) → given os (λ tys. Some (with_types tys (with_type ty known)))
        ≡ given (given os (λ tys. Some (ty ∷ tys))) (λ tys. Some (with_types tys known))
    behind None = refl
    behind (Some tys) = ap (λ l. Some (known.0, l, known.2)) (sym (reverse_more ty tys known.1))

each_pushed : (types : List TyExp) (known : Known)
    → with_each_written types known ≡ given (all_written known.2.types types) (λ tys. Some (with_types tys known))
each_pushed [] known = refl
each_pushed (type ∷ types) known =
    ap (given (with_written type known)) (λ i next. each_pushed types next i)
    ∙ one_more (written known.2.types type) (λ s. all_written s.types types) known

-- the types as one tuple
tupled : (o : Option (List Ty)) (known next : Known) (count : ℕ) → ((tys : List Ty) → o ≡ Some tys → length tys ≡ count)
    → given o (λ tys. Some (with_types tys known)) ≡ Some next
    → given o (λ tys. Some (with_type (TupleTy tys) known)) ≡ Some (next.0, TupleTy (reverse (take count next.1)) ∷ drop count next.1, next.2)
tupled None known next count long h = cc
tupled (Some tys) known next count long h =
    let is = taken_back tys known.1 count (long tys refl) in
    let left = left_below tys known.1 count (long tys refl) in
    (λ i. Some (known.0, TupleTy (sym is i) ∷ sym left i, known.2))
    ∙ ap (λ (k : Known). Some (k.0, TupleTy (reverse (take count k.1)) ∷ drop count k.1, k.2)) (some-same _ _ h)

missing : (o : Option (List Ty)) (known : Known) → given o (λ tys. Some (with_types tys known)) ≡ None
    → given o (λ tys. Some (with_type (TupleTy tys) known)) ≡ None
missing None known h = refl
missing (Some tys) known h = cc

pub tuple_pushed : (types : List TyExp) (known next : Known) (count : ℕ) → with_each_written types known ≡ Some next → count ≡ length types
    → with_written_tuple types known ≡ Some (next.0, TupleTy (reverse (take count next.1)) ∷ drop count next.1, next.2)
tuple_pushed types known next count h long =
    tupled (all_written known.2.types types) known next count
    (λ tys o. all_there_length (map (written known.2.types) types) tys o ∙ (length-map types (written known.2.types) ∙ sym long))
    (sym (each_pushed types known) ∙ h)

pub no_tuple : (types : List TyExp) (known : Known) → with_each_written types known ≡ None → with_written_tuple types known ≡ None
no_tuple types known h = missing (all_written known.2.types types) known (sym (each_pushed types known) ∙ h)

pub ruleset each_steps = (common_steps, given_some, given_none)

pub ruleset written_steps = (common_steps, type_lemmas, ty_lemmas, given_some, given_none)

pub ruleset tuple_steps = (common_steps, tuple_pushed, no_tuple)
