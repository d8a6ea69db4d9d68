-- One name more in a table of distinct names.
use Rattle.std.proofs.Common.{◌≡◌, ℕ, ◌+◌, List, [], ◌∷◌, ◌++◌, Option, Some, None, slice_get, take, refl, ap, sym, subst, ◌∙◌, Bool, true, false, ◌&&◌, not, if◌then◌else◌, is_some, IsTrue}
use Rattle.std.proofs.lemmas.Bool.{false≢true}
use Rattle.std.proofs.lemmas.List.{append-nil, take_more}
use Rattle.std.proofs.lemmas.Option.{slice_get_within, get_or_from_slice_get}
use Rattle.std.proofs.lemmas.Slice.Eq.{bytes_eq-Decides}
use Rattle.std.specs.Str.{bytes_eq}
use Rattle.check_tables.specs.names.Names.{among}
use Rattle.check_tables.specs.names.Names.{number_of, with_name, names_of}
use Rattle.check_names.specs.Leading.{numbers_of}
use Rattle.check_names.specs.inner.Indexed.{listed, IsIndex}
use Rattle.check_tables.proofs.names_lemmas.Lookup.{is_some-number_of}

numbers_of-push : (name : List ℕ) (es : List (List ℕ × ℕ)) (o : List ℕ × ℕ) → numbers_of name (es ++ o ∷ []) ≡ numbers_of name es ++ (if bytes_eq name o.0 then o.1 ∷ [] else [])
numbers_of-push name [] o = refl
numbers_of-push name (e ∷ es) o = by (bytes_eq name e.0) (numbers_of-push name es o)
  where
    by : (b : Bool) → numbers_of name (es ++ o ∷ []) ≡ numbers_of name es ++ (if bytes_eq name o.0 then o.1 ∷ [] else [])
        → (if b then e.1 ∷ numbers_of name (es ++ o ∷ []) else numbers_of name (es ++ o ∷ [])) ≡ (if b then e.1 ∷ numbers_of name es else numbers_of name es) ++ (if bytes_eq name o.0 then o.1 ∷ [] else [])
    by true h = ap (λ ns. e.1 ∷ ns) h
    by false h = h

-- the number of a name, with one entry more
after : Option ℕ → Option ℕ → Option ℕ
after None later = later
after (Some n) later = Some n

number_of-push : (name : List ℕ) (es : List (List ℕ × ℕ)) (o : List ℕ × ℕ) → number_of name (es ++ o ∷ []) ≡ after (number_of name es) (if bytes_eq name o.0 then Some o.1 else None)
unfolding after
number_of-push name [] o = refl
number_of-push name (e ∷ es) o = by (bytes_eq name e.0) (number_of-push name es o)
  where
    by : (b : Bool) → number_of name (es ++ o ∷ []) ≡ after (number_of name es) (if bytes_eq name o.0 then Some o.1 else None)
        → (if b then Some e.1 else number_of name (es ++ o ∷ [])) ≡ after (if b then Some e.1 else number_of name es) (if bytes_eq name o.0 then Some o.1 else None)
    by true h = refl
    by false h = h

after_none : (x : Option ℕ) → after x None ≡ x
unfolding after
after_none None = refl
after_none (Some n) = refl

none_from : (x : Option ℕ) → is_some x ≡ false → x ≡ None
none_from None h = refl
none_from (Some n) h = absurd (false≢true (sym h))

pub index_push : (es owners : List (List ℕ × ℕ)) (o : List ℕ × ℕ) → among o.0 (names_of es) ≡ false → IsIndex es owners → IsIndex (es ++ o ∷ []) (owners ++ o ∷ [])
unfolding after
index_push es owners o off h name = by (bytes_eq name o.0) refl
  where
    by : (b : Bool) → bytes_eq name o.0 ≡ b → numbers_of name (owners ++ o ∷ []) ≡ listed (number_of name (es ++ o ∷ []))
    by true q =
        let none : number_of name es ≡ None = none_from (number_of name es) (ap (λ z. is_some (number_of z es)) ((bytes_eq-Decides name o.0).0 q) ∙ is_some-number_of o.0 es ∙ off) in
        numbers_of-push name owners o ∙ ap (λ b. numbers_of name owners ++ (if b then o.1 ∷ [] else [])) q ∙ ap (λ ns. ns ++ o.1 ∷ []) (h name ∙ ap listed none)
        ∙ sym (ap listed (number_of-push name es o ∙ (λ i. after (none i) (if q i then Some o.1 else None))))
    by false q =
        numbers_of-push name owners o ∙ ap (λ b. numbers_of name owners ++ (if b then o.1 ∷ [] else [])) q ∙ append-nil (numbers_of name owners) ∙ h name
        ∙ sym (ap listed (number_of-push name es o ∙ ap (λ b. after (number_of name es) (if b then Some o.1 else None)) q ∙ after_none (number_of name es)))

pub index_more : (table new owners : List (List ℕ × ℕ)) (at : ℕ) (o : List ℕ × ℕ) (distinct is_new : Bool) → slice_get owners at ≡ Some o → (IsTrue distinct → IsIndex table (take at owners))
    → is_new ≡ not (among o.0 (names_of table)) → new ≡ with_name table o.0 o.1 → IsTrue (distinct && is_new) → IsIndex new (take (at + 1) owners)
index_more table new owners at o distinct is_new is h fresh added t = by distinct is_new h fresh t (among o.0 (names_of table)) refl
  where
    more : take (at + 1) owners ≡ take at owners ++ o ∷ []
    more = take_more owners at o (slice_get_within owners at o is) ∙ ap (λ x. take at owners ++ x ∷ []) (get_or_from_slice_get owners at o o is)

    by : (d n : Bool) → (IsTrue d → IsIndex table (take at owners)) → n ≡ not (among o.0 (names_of table)) → IsTrue (d && n) → (a : Bool) → among o.0 (names_of table) ≡ a → IsIndex new (take (at + 1) owners)
    by false n h e t a q = absurd (false≢true t)
    by true false h e t a q = absurd (false≢true t)
    by true true h e t true q = absurd (false≢true (sym (e ∙ ap not q)))
    by true true h e t false q =
        let there : new ≡ table ++ o ∷ [] = added ∙ ap (λ b. if b then table else table ++ o ∷ []) (is_some-number_of o.0 table ∙ q) in
        subst (λ es. IsIndex es (take (at + 1) owners)) (sym there) (subst (IsIndex (table ++ o ∷ [])) (sym more) (index_push table (take at owners) o q (h refl)))

-- what is beside a name, with one entry more
module _ (es : List (List ℕ × ℕ)) (o : List ℕ × ℕ) where
  pub itself : bytes_eq o.0 o.0 ≡ true
  itself = (bytes_eq-Decides o.0 o.0).1 refl

  pub numbers_own : numbers_of o.0 (es ++ o ∷ []) ≡ numbers_of o.0 es ++ o.1 ∷ []
  numbers_own = numbers_of-push o.0 es o ∙ ap (λ b. numbers_of o.0 es ++ (if b then o.1 ∷ [] else [])) itself

  pub numbers_other : (name : List ℕ) → bytes_eq name o.0 ≡ false → numbers_of name (es ++ o ∷ []) ≡ numbers_of name es
  numbers_other name off = numbers_of-push name es o ∙ ap (λ b. numbers_of name es ++ (if b then o.1 ∷ [] else [])) off ∙ append-nil (numbers_of name es)

  pub number_own : number_of o.0 es ≡ None → number_of o.0 (es ++ o ∷ []) ≡ Some o.1
  unfolding after
  number_own none = number_of-push o.0 es o ∙ (λ i. after (none i) (if itself i then Some o.1 else None))

  pub number_other : (name : List ℕ) → bytes_eq name o.0 ≡ false → number_of name (es ++ o ∷ []) ≡ number_of name es
  number_other name off = number_of-push name es o ∙ ap (λ b. after (number_of name es) (if b then Some o.1 else None)) off ∙ after_none (number_of name es)

  pub number_kept : (name : List ℕ) (n : ℕ) → number_of name es ≡ Some n → number_of name (es ++ o ∷ []) ≡ Some n
  unfolding after
  number_kept name n h = number_of-push name es o ∙ ap (λ x. after x (if bytes_eq name o.0 then Some o.1 else None)) h
