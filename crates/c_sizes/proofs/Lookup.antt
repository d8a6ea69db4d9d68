-- A look-up in the entries of a map is a look-up in the list that a table shows.
use Rattle.std.proofs.Common.{◌≡◌, ℕ, List, [], ◌∷◌, ◌++◌, Some, map, refl, ap, sym, ◌∙◌, Bool, true, false, if◌then◌else◌, is_some}
use Rattle.std.proofs.lemmas.Bool.{false≢true}
use Rattle.std.specs.Str.{bytes_eq}
use Rattle.std.specs.Map.{lookup}
use denote.Ref.{Bor}
use Rattle.indexmap.specs.IndexMap.{insert_entry}
use Rattle.c_sizes.specs.Names.{known, with_name}

module _ {V : Type 0} where
  abbrev pub shown : List (Bor (List ℕ) × V) → List (List ℕ × V)
  shown entries = map (λ entry. (entry.0.now, entry.1)) entries

  pub lookup-known : (name : List ℕ) (es : List (Bor (List ℕ) × V)) → lookup (λ k. bytes_eq name k.now) es ≡ known name (shown es)
  lookup-known name [] = refl
  lookup-known name (e ∷ es) = ap (λ r. if bytes_eq name e.0.now then Some e.1 else r) (lookup-known name es)

  pub with_name-old : (es : List (List ℕ × V)) (name : List ℕ) (v : V) → is_some (known name es) ≡ true → es ≡ with_name es name v
  with_name-old es name v h = ap (λ b. if b then es else es ++ (name, v) ∷ []) (sym h)

  -- a map whose key is absent, after an insertion
  shown_new : (key : Bor (List ℕ)) (v : V) (es : List (Bor (List ℕ) × V)) → is_some (known key.now (shown es)) ≡ false
      → shown (insert_entry (λ x y. bytes_eq x.now y.now) es key v) ≡ shown es ++ (key.now, v) ∷ []
  shown_new key v [] h = refl
  shown_new key v (e ∷ es) h = by (bytes_eq key.now e.0.now) refl (shown_new key v es)
    where
      by : (b : Bool) → bytes_eq key.now e.0.now ≡ b
          → (is_some (known key.now (shown es)) ≡ false → shown (insert_entry (λ x y. bytes_eq x.now y.now) es key v) ≡ shown es ++ (key.now, v) ∷ [])
          → shown (insert_entry (λ x y. bytes_eq x.now y.now) (e ∷ es) key v) ≡ shown (e ∷ es) ++ (key.now, v) ∷ []
      by true q rest = absurd (false≢true (sym h ∙ ap (λ b. is_some (if b then Some e.1 else known key.now (shown es))) q))
      by false q rest = ap (λ b. shown (if b then (e.0, v) ∷ es else e ∷ insert_entry (λ x y. bytes_eq x.now y.now) es key v)) q
          ∙ ap (λ l. (e.0.now, e.1) ∷ l) (rest (sym (ap (λ b. is_some (if b then Some e.1 else known key.now (shown es))) q) ∙ h))

  pub with_name-new : (key : Bor (List ℕ)) (v : V) (es new : List (Bor (List ℕ) × V)) → is_some (known key.now (shown es)) ≡ false
      → new ≡ insert_entry (λ x y. bytes_eq x.now y.now) es key v → shown new ≡ with_name (shown es) key.now v
  with_name-new key v es new h is = ap shown is ∙ shown_new key v es h ∙ ap (λ b. if b then shown es else shown es ++ (key.now, v) ∷ []) (sym h)
