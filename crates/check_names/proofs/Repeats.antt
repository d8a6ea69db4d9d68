-- Names that come again, and tables with the same names.
use Rattle.std.proofs.Common.{◌≡◌, ℕ, ◌+◌, ◌<◌, List, [], ◌∷◌, ◌++◌, length, take, drop, get_or, refl, ap, sym, subst, ◌∙◌, Bool, true, false, ◌||◌, not, if◌then◌else◌, is_some}
use Rattle.std.proofs.lemmas.List.{map-append, take_more}
use Rattle.std.proofs.lemmas.List.Folds.{list_any-append}
use Rattle.std.proofs.lemmas.Slice.Eq.{bytes_eq-Decides}
use Rattle.std.proofs.Common.{append_assoc}
use Rattle.std.specs.Str.{bytes_eq}
use Rattle.check_tables.specs.names.Names.{among}
use Rattle.check_names.specs.Names.{repeats}
use Rattle.check_tables.specs.names.Names.{number_of, with_name, names_of}
use Rattle.check_names.specs.inner.Spaces.{SameNames}
use Rattle.check_tables.proofs.names_lemmas.Lookup.{is_some-number_of}

pub among-append : (name : List ℕ) (xs ys : List (List ℕ)) → among name (xs ++ ys) ≡ (among name xs || among name ys)
among-append name xs ys = list_any-append (λ other. bytes_eq name other) xs ys

pub same_append : (xs ys zs : List (List ℕ)) → SameNames xs ys → SameNames (xs ++ zs) (ys ++ zs)
same_append xs ys zs same = λ name. among-append name xs zs ∙ ap (λ b. b || among name zs) (same name) ∙ sym (among-append name ys zs)

pub same_then : (xs ys zs : List (List ℕ)) → SameNames xs ys → SameNames ys zs → SameNames xs zs
same_then xs ys zs p q = λ name. p name ∙ q name

pub repeats_same : (xs ys : List (List ℕ)) → SameNames xs ys → (names : List (List ℕ)) → repeats xs names ≡ repeats ys names
repeats_same xs ys same [] = refl
repeats_same xs ys same (name ∷ names) = λ i. same name i || repeats_same (xs ++ name ∷ []) (ys ++ name ∷ []) (same_append xs ys (name ∷ []) same) names i

or_after : (a b : Bool) → (b ≡ true → a ≡ true) → a ≡ (a || (b || false))
or_after true b h = refl
or_after false true h = h refl
or_after false false h = refl

pub same_with_name : (es : List (List ℕ × ℕ)) (name : List ℕ) (n : ℕ) → SameNames (names_of (with_name es name n)) (names_of es ++ name ∷ [])
same_with_name es name n = by (is_some (number_of name es)) refl
  where
    by : (b : Bool) → is_some (number_of name es) ≡ b → SameNames (names_of (if b then es else es ++ (name, n) ∷ [])) (names_of es ++ name ∷ [])
    by true h = λ other. or_after (among other (names_of es)) (bytes_eq other name) (λ e. ap (λ z. among z (names_of es)) ((bytes_eq-Decides other name).0 e) ∙ sym (is_some-number_of name es) ∙ h)
        ∙ sym (among-append other (names_of es) (name ∷ []))
    by false h = λ other. ap (among other) (map-append (λ entry. entry.0) es ((name, n) ∷ []))

again_by : (again a r : Bool) → ((again || not (not a)) || r) ≡ (again || (a || r))
again_by true a r = refl
again_by false true r = refl
again_by false false r = refl

-- one name more of a list
module _ (table new : List (List ℕ × ℕ)) (first names : List (List ℕ)) (at : ℕ) (name : List ℕ) (number : ℕ) (lt : at < length names) (is : name ≡ get_or names at [])
    (added : new ≡ with_name table name number) where
  same_new : SameNames (names_of new) (names_of table ++ name ∷ [])
  same_new = subst (λ es. SameNames (names_of es) (names_of table ++ name ∷ [])) (sym added) (same_with_name table name number)

  pub same_more : SameNames (names_of table) (first ++ take at names) → SameNames (names_of new) (first ++ take (at + 1) names)
  same_more same =
      subst (SameNames (names_of new)) (append_assoc first (take at names) (name ∷ []) ∙ ap (λ ns. first ++ ns) (ap (λ x. take at names ++ x ∷ []) is ∙ sym (take_more names at [] lt)))
      (same_then (names_of new) (names_of table ++ name ∷ []) ((first ++ take at names) ++ name ∷ []) same_new (same_append (names_of table) (first ++ take at names) (name ∷ []) same))

  pub again_more : (again is_new all : Bool) → drop at names ≡ name ∷ drop (at + 1) names → is_new ≡ not (among name (names_of table)) → (again || repeats (names_of table) (drop at names)) ≡ all
      → ((again || not is_new) || repeats (names_of new) (drop (at + 1) names)) ≡ all
  again_more again is_new all front fresh h =
      (λ i. (again || not (fresh i)) || repeats_same (names_of new) (names_of table ++ name ∷ []) same_new (drop (at + 1) names) i)
      ∙ again_by again (among name (names_of table)) (repeats (names_of table ++ name ∷ []) (drop (at + 1) names))
      ∙ ap (λ ns. again || repeats (names_of table) ns) (sym front) ∙ h
