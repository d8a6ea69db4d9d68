-- A look-up in the entries of a map is a look-up in the list that a table shows.
use Rattle.std.proofs.Common.{◌≡◌, ℕ, List, [], ◌∷◌, ◌++◌, Some, map, refl, ap, sym, ◌∙◌, Bool, true, false, ◌||◌, if◌then◌else◌, is_some}
use Rattle.std.proofs.lemmas.Bool.{false≢true}
use Rattle.std.specs.Str.{bytes_eq}
use Rattle.std.specs.Map.{lookup}
use denote.Ref.{Bor}
use Rattle.indexmap.specs.IndexMap.{insert_entry}
use Rattle.check_tables.specs.names.Names.{among, names_of, number_of, with_name, with_names}

abbrev pub shown : List (Bor (List ℕ) × ℕ) → List (List ℕ × ℕ)
shown entries = map (λ entry. (entry.0.now, entry.1)) entries

pub lookup-number_of : (name : List ℕ) (es : List (Bor (List ℕ) × ℕ)) → lookup (λ k. bytes_eq name k.now) es ≡ number_of name (shown es)
lookup-number_of name [] = refl
lookup-number_of name (e ∷ es) = ap (λ r. if bytes_eq name e.0.now then Some e.1 else r) (lookup-number_of name es)

pub is_some-number_of : (name : List ℕ) (es : List (List ℕ × ℕ)) → is_some (number_of name es) ≡ among name (names_of es)
is_some-number_of name [] = refl
is_some-number_of name (e ∷ es) = by (bytes_eq name e.0) (is_some-number_of name es)
  where
    by : (b : Bool) → is_some (number_of name es) ≡ among name (names_of es) → is_some (if b then Some e.1 else number_of name es) ≡ (b || among name (names_of es))
    by true h = refl
    by false h = h

pub with_name-old : (es : List (List ℕ × ℕ)) (name : List ℕ) (n : ℕ) → among name (names_of es) ≡ true → es ≡ with_name es name n
with_name-old es name n h = ap (λ b. if b then es else es ++ (name, n) ∷ []) (sym (is_some-number_of name es ∙ h))

-- a map whose key is absent, after an insertion
shown_new : (key : Bor (List ℕ)) (n : ℕ) (es : List (Bor (List ℕ) × ℕ)) → is_some (number_of key.now (shown es)) ≡ false
    → shown (insert_entry (λ x y. bytes_eq x.now y.now) es key n) ≡ shown es ++ (key.now, n) ∷ []
shown_new key n [] h = refl
shown_new key n (e ∷ es) h = by (bytes_eq key.now e.0.now) refl (shown_new key n es)
  where
    by : (b : Bool) → bytes_eq key.now e.0.now ≡ b → (is_some (number_of key.now (shown es)) ≡ false → shown (insert_entry (λ x y. bytes_eq x.now y.now) es key n) ≡ shown es ++ (key.now, n) ∷ [])
        → shown (insert_entry (λ x y. bytes_eq x.now y.now) (e ∷ es) key n) ≡ shown (e ∷ es) ++ (key.now, n) ∷ []
    by true q rest = absurd (false≢true (sym h ∙ ap (λ b. is_some (if b then Some e.1 else number_of key.now (shown es))) q))
    by false q rest = ap (λ b. shown (if b then (e.0, n) ∷ es else e ∷ insert_entry (λ x y. bytes_eq x.now y.now) es key n)) q
        ∙ ap (λ l. (e.0.now, e.1) ∷ l) (rest (sym (ap (λ b. is_some (if b then Some e.1 else number_of key.now (shown es))) q) ∙ h))

pub with_name-new : (key : Bor (List ℕ)) (n : ℕ) (es new : List (Bor (List ℕ) × ℕ)) → among key.now (names_of (shown es)) ≡ false
    → new ≡ insert_entry (λ x y. bytes_eq x.now y.now) es key n → shown new ≡ with_name (shown es) key.now n
with_name-new key n es new h is =
    let off : is_some (number_of key.now (shown es)) ≡ false = is_some-number_of key.now (shown es) ∙ h in
    ap shown is ∙ shown_new key n es off ∙ ap (λ b. if b then shown es else shown es ++ (key.now, n) ∷ []) (sym off)

-- names of one list after those of another
pub with_names-append : (table xs ys : List (List ℕ × ℕ)) → with_names table (xs ++ ys) ≡ with_names (with_names table xs) ys
with_names-append table [] ys = refl
with_names-append table (x ∷ xs) ys = with_names-append (with_name table x.0 x.1) xs ys
