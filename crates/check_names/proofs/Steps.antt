-- One more of a list of declarations, of mentions or of names.
use Rattle.std.proofs.Common.{◌≡◌, ℕ, suc, ◌+◌, ◌<◌, List, [], ◌∷◌, ◌++◌, Some, slice_get, length, map, take, drop, get_or, refl, ap, sym, subst, ◌∙◌, Bool, true, false, ◌||◌, not, if◌then◌else◌, append_assoc, arith}
use Rattle.std.proofs.lemmas.List.{drop_more, flat_map_more, take_more}
use Rattle.std.proofs.lemmas.Option.{slice_get_within, get_or_from_slice_get}
use Rattle.hume_ast.specs.declared.tree.Decl.{Decl}
use Rattle.check_names.specs.declared.mention_list.NameKind.{NameKind}
use Rattle.check_names.specs.DeclaredNames.{types_of, constructors_of, exceptions_of, functions_of, given_exceptions}
use Rattle.check_names.specs.Mentions.{Mention}
use Rattle.check_names.specs.Unknown.{Known, known_in, is_unknown, mentions_unknown}
use Rattle.check_names.specs.Leading.{owners_from, names_of_kind, numbers_of, same_kind, meant}
use Rattle.check_names.specs.inner.KnownTables.{SameKnown, known_with}
use Rattle.check_names.proofs.Repeats.{same_append, same_then}

pub drop_at : {X : Type 0} → (xs : List X) (at : ℕ) (x : X) → slice_get xs at ≡ Some x → drop at xs ≡ x ∷ drop (at + 1) xs
drop_at xs at x is = drop_more xs at x (slice_get_within xs at x is) ∙ ap (λ y. y ∷ drop (at + 1) xs) (get_or_from_slice_get xs at x x is)

-- known names
known_push : (decls : List (ℕ × Decl)) (d : ℕ × Decl) → known_with (known_in decls) d.1 ≡ known_in (decls ++ d ∷ [])
known_push decls d = λ i. record {
  types = flat_map_more (λ d. types_of d.1) [] decls d i;
  constructors = flat_map_more (λ d. constructors_of d.1) [] decls d i;
  exceptions = flat_map_more (λ d. exceptions_of d.1) given_exceptions decls d i;
  functions = flat_map_more (λ d. functions_of d.1) [] decls d i;
}

pub known_more : (decls : List (ℕ × Decl)) (i : ℕ) (d : ℕ × Decl) (old new : Known) → i < length decls → d ≡ get_or decls i d → SameKnown old (known_in (take i decls)) → SameKnown new (known_with old d.1)
    → SameKnown new (known_in (take (i + 1) decls))
known_more decls i d old new lt is same added =
    subst (SameKnown new) (known_push (take i decls) d ∙ ap (λ x. known_in (take i decls ++ x ∷ [])) is ∙ ap known_in (sym (take_more decls i d lt))) (record {
      types = same_then new.types (old.types ++ types_of d.1) ((known_in (take i decls)).types ++ types_of d.1) added.types (same_append old.types (known_in (take i decls)).types (types_of d.1) same.types);
      constructors = same_then new.constructors (old.constructors ++ constructors_of d.1) ((known_in (take i decls)).constructors ++ constructors_of d.1) added.constructors
          (same_append old.constructors (known_in (take i decls)).constructors (constructors_of d.1) same.constructors);
      exceptions = same_then new.exceptions (old.exceptions ++ exceptions_of d.1) ((known_in (take i decls)).exceptions ++ exceptions_of d.1) added.exceptions
          (same_append old.exceptions (known_in (take i decls)).exceptions (exceptions_of d.1) same.exceptions);
      functions = same_then new.functions (old.functions ++ functions_of d.1) ((known_in (take i decls)).functions ++ functions_of d.1) added.functions
          (same_append old.functions (known_in (take i decls)).functions (functions_of d.1) same.functions);
    })

is_unknown_same : (a b : Known) → SameKnown a b → (kind : NameKind) (name : List ℕ) → is_unknown a kind name ≡ is_unknown b kind name
is_unknown_same a b same NameKind.DataType name = ap not (same.types name)
is_unknown_same a b same NameKind.Constructor name = ap not (same.constructors name)
is_unknown_same a b same NameKind.Exception name = ap not (same.exceptions name)
is_unknown_same a b same NameKind.Function name = ap not (same.functions name)
is_unknown_same a b same NameKind.Unbound name = refl

pub mentions_unknown_same : (a b : Known) → SameKnown a b → (mentions : List Mention) → mentions_unknown a mentions ≡ mentions_unknown b mentions
mentions_unknown_same a b same [] = refl
mentions_unknown_same a b same (m ∷ ms) = λ i. is_unknown_same a b same m.0 m.1 i || mentions_unknown_same a b same ms i

pub unknown_here : (known : Known) (ms : List Mention) (at : ℕ) (m : Mention) (test all : Bool) → slice_get ms at ≡ Some m → test ≡ is_unknown known m.0 m.1 → test ≡ true → mentions_unknown known (drop at ms) ≡ all → true ≡ all
unknown_here known ms at m test all is here on h = ap (λ b. b || mentions_unknown known (drop (at + 1) ms)) (sym on ∙ here) ∙ ap (mentions_unknown known) (sym (drop_at ms at m is)) ∙ h

pub unknown_later : (known : Known) (ms : List Mention) (at : ℕ) (m : Mention) (test all : Bool) → slice_get ms at ≡ Some m → test ≡ is_unknown known m.0 m.1 → test ≡ false → mentions_unknown known (drop at ms) ≡ all
    → mentions_unknown known (drop (at + 1) ms) ≡ all
unknown_later known ms at m test all is here off h = ap (λ b. b || mentions_unknown known (drop (at + 1) ms)) (sym off ∙ here) ∙ ap (mentions_unknown known) (sym (drop_at ms at m is)) ∙ h

-- graphs
pub meant_more : (kind : NameKind) (owners : List (List ℕ × ℕ)) (row new all : List ℕ) (ms : List Mention) (at : ℕ) (m : Mention) → slice_get ms at ≡ Some m → row ++ meant kind owners (drop at ms) ≡ all
    → new ≡ row ++ (if same_kind m.0 kind then numbers_of m.1 owners else []) → new ++ meant kind owners (drop (at + 1) ms) ≡ all
meant_more kind owners row new all ms at m is h e =
    ap (λ r. r ++ meant kind owners (drop (at + 1) ms)) e
    ∙ append_assoc row (if same_kind m.0 kind then numbers_of m.1 owners else []) (meant kind owners (drop (at + 1) ms))
    ∙ ap (λ rest. row ++ meant kind owners rest) (sym (drop_at ms at m is)) ∙ h

pub owners_more : (kind : NameKind) (owners new all : List (List ℕ × ℕ)) (decls : List (ℕ × Decl)) (i : ℕ) (d : ℕ × Decl) (names : List (List ℕ)) → slice_get decls i ≡ Some d → names ≡ names_of_kind kind d.1
    → owners ++ owners_from kind i (drop i decls) ≡ all → new ≡ owners ++ map (λ name. (name, i)) names → new ++ owners_from kind (i + 1) (drop (i + 1) decls) ≡ all
owners_more kind owners new all decls i d names is own h e =
    let next : i + 1 ≡ suc i = omega arith in
    ap (λ r. r ++ owners_from kind (i + 1) (drop (i + 1) decls)) (e ∙ ap (λ ns. owners ++ map (λ name. (name, i)) ns) own)
    ∙ append_assoc owners (map (λ name. (name, i)) (names_of_kind kind d.1)) (owners_from kind (i + 1) (drop (i + 1) decls))
    ∙ ap (λ n. owners ++ (map (λ name. (name, i)) (names_of_kind kind d.1) ++ owners_from kind n (drop (i + 1) decls))) next
    ∙ ap (λ rest. owners ++ owners_from kind i rest) (sym (drop_at decls i d is)) ∙ h
