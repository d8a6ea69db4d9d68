-- What a table of names finds is the first of a name.
use Rattle.std.proofs.Common.{◌≡◌, ℕ, suc, ◌+◌, List, [], ◌∷◌, ◌++◌, Option, Some, None, refl, ap, sym, ◌∙◌, Bool, true, false, if◌then◌else◌, option_map, option_and_then, slice_get, is_some, arith}
use Rattle.std.proofs.lemmas.Bool.{false≢true}
use Rattle.std.proofs.lemmas.Slice.Eq.{bytes_eq-Decides}
use Rattle.std.specs.Str.{bytes_eq}
use Rattle.check_typing.specs.Signatures.{one_further, first_named}
use Rattle.check_typing.proofs.NamesFound.{first_stands}
use Rattle.check_tables.specs.names.Names.{number_of, with_name, with_names}
use Rattle.check_scopes.specs.signatures.inner.Tables.{numbered_from, table_of, numbered_item}

-- the one, or the other where there is none
abbrev pub or_else : {A : Type 0} → Option A → Option A → Option A
or_else None other = other
or_else (Some x) other = Some x

swapped : (xs ys : List ℕ) → bytes_eq xs ys ≡ bytes_eq ys xs
swapped xs ys = by (bytes_eq xs ys) (bytes_eq ys xs) refl refl
  where
    by : (a b : Bool) → bytes_eq xs ys ≡ a → bytes_eq ys xs ≡ b → a ≡ b
    by true true p q = refl
    by false false p q = refl
    by true false p q = absurd (false≢true (sym q ∙ (bytes_eq-Decides ys xs).1 (sym ((bytes_eq-Decides xs ys).0 p))))
    by false true p q = absurd (false≢true (sym p ∙ (bytes_eq-Decides xs ys).1 (sym ((bytes_eq-Decides ys xs).0 q))))

-- a name that is looked up among one name more
one_more : (name other : List ℕ) (n : ℕ) (es : List (List ℕ × ℕ))
    → number_of name (es ++ (other, n) ∷ []) ≡ or_else (number_of name es) (if bytes_eq name other then Some n else None)
one_more name other n [] = refl
one_more name other n (e ∷ es) = by (bytes_eq name e.0) (one_more name other n es)
  where
    last : Option ℕ
    last = if bytes_eq name other then Some n else None

    by : (b : Bool) → number_of name (es ++ (other, n) ∷ []) ≡ or_else (number_of name es) last
        → (if b then Some e.1 else number_of name (es ++ (other, n) ∷ [])) ≡ or_else (if b then Some e.1 else number_of name es) last
    by true h = refl
    by false h = h

there_first : (o : Option ℕ) (last : Option ℕ) → is_some o ≡ true → o ≡ or_else o last
there_first None last h = absurd (false≢true h)
there_first (Some x) last h = refl

none_after : (o : Option ℕ) → o ≡ or_else o None
none_after None = refl
none_after (Some x) = refl

with_one : (name other : List ℕ) (n : ℕ) (es : List (List ℕ × ℕ))
    → number_of name (with_name es other n) ≡ or_else (number_of name es) (if bytes_eq name other then Some n else None)
with_one name other n es = by (is_some (number_of other es)) refl
  where
    old : (b : Bool) → bytes_eq name other ≡ b → is_some (number_of other es) ≡ true
        → number_of name es ≡ or_else (number_of name es) (if b then Some n else None)
    old true same h = there_first (number_of name es) (Some n) (ap (λ x. is_some (number_of x es)) ((bytes_eq-Decides name other).0 same) ∙ h)
    old false same h = none_after (number_of name es)

    by : (b : Bool) → is_some (number_of other es) ≡ b
        → number_of name (if b then es else es ++ (other, n) ∷ []) ≡ or_else (number_of name es) (if bytes_eq name other then Some n else None)
    by true h = old (bytes_eq name other) refl h
    by false h = one_more name other n es

or_else-assoc : (a b c : Option ℕ) → or_else (or_else a b) c ≡ or_else a (or_else b c)
or_else-assoc None b c = refl
or_else-assoc (Some x) b c = refl

with_more : (name : List ℕ) (table es : List (List ℕ × ℕ)) → number_of name (with_names table es) ≡ or_else (number_of name table) (number_of name es)
with_more name table [] = none_after (number_of name table)
with_more name table (e ∷ es) =
    with_more name (with_name table e.0 e.1) es ∙ ap (λ o. or_else o (number_of name es)) (with_one name e.0 e.1 table)
    ∙ or_else-assoc (number_of name table) (if bytes_eq name e.0 then Some e.1 else None) (number_of name es) ∙ by (bytes_eq name e.0)
  where
    by : (b : Bool) → or_else (number_of name table) (or_else (if b then Some e.1 else None) (number_of name es))
        ≡ or_else (number_of name table) (if b then Some e.1 else number_of name es)
    by true = refl
    by false = refl

module _ {A : Type 0} (name_of : A → List ℕ) (name : List ℕ) where
  numbered : (n : ℕ) (xs : List A) → number_of name (numbered_from name_of n xs) ≡ option_map (λ (f : ℕ × A). n + f.0) (first_named name_of name xs)
  numbered n [] = refl
  numbered n (x ∷ xs) =
      ap (λ b. if b then Some n else number_of name (numbered_from name_of (suc n) xs)) (swapped name (name_of x))
      ∙ by (bytes_eq (name_of x) name) (first_named name_of name xs) (number_of name (numbered_from name_of (suc n) xs)) (numbered (suc n) xs)
    where
      by : (b : Bool) (o : Option (ℕ × A)) (found : Option ℕ) → found ≡ option_map (λ (f : ℕ × A). suc n + f.0) o
          → (if b then Some n else found) ≡ option_map (λ (f : ℕ × A). n + f.0) (if b then Some (0, x) else one_further o)
      by true o found h = ap Some (let e : n ≡ n + 0 = omega arith in e)
      by false None found h = h
      by false (Some f) found h = h ∙ ap Some (let e : suc n + f.0 ≡ n + (f.0 + 1) = omega arith in e)

  pub found_number : (xs : List A) → number_of name (table_of name_of xs) ≡ option_map (λ (f : ℕ × A). f.0) (first_named name_of name xs)
  found_number xs =
      with_more name [] (numbered_from name_of 0 xs) ∙ numbered 0 xs
      ∙ by (first_named name_of name xs)
    where
      by : (o : Option (ℕ × A)) → option_map (λ (f : ℕ × A). 0 + f.0) o ≡ option_map (λ (f : ℕ × A). f.0) o
      by None = refl
      by (Some f) = ap Some (let e : 0 + f.0 ≡ f.0 = omega arith in e)

  -- what has the number that is found
  pub first_found : (xs : List A) (o : Option ℕ) → o ≡ number_of name (table_of name_of xs) → numbered_item xs o ≡ first_named name_of name xs
  first_found xs o h = rw (h ∙ found_number xs) (by (first_named name_of name xs) (first_stands name_of name xs))
    where
      by : (f : Option (ℕ × A)) → ((i : ℕ) (x : A) → f ≡ Some (i, x) → slice_get xs i ≡ Some x)
          → option_and_then (λ n. option_map (λ x. (n, x)) (slice_get xs n)) (option_map (λ (f : ℕ × A). f.0) f) ≡ f
      by None stands = refl
      by (Some f) stands = ap (option_map (λ x. (f.0, x))) (stands f.0 f.1 refl)
