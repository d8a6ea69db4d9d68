-- What words ask for, by how many there are.
use Rattle.std.proofs.Common.{◌≡◌, ◌≤◌, ◌<◌, ℕ, List, [], ◌∷◌, map, length, None, slice_index_or, refl, sym, ap, ◌∙◌, arith}
use Rattle.hume_look.specs.Words.{word_named, word_of}

module _ {A : Type 0} (bytes_of : A → List ℕ) where
  -- two words
  pub two_words : (words : List A) (word : A) (text : List ℕ) → 2 ≤ length words → length words < 3 → word ≡ slice_index_or words 0 word
      → text ≡ bytes_of word → word_of (map bytes_of words) ≡ word_named text
  two_words [] word text least less is named = absurd (omega arith)
  two_words (first ∷ []) word text least less is named = absurd (omega arith)
  two_words (first ∷ second ∷ []) word text least less is named =
      ap (λ (it : A). word_named (bytes_of it)) (sym is) ∙ ap word_named (sym named)
  two_words (first ∷ second ∷ third ∷ words) word text least less is named = absurd (omega arith)

  -- fewer or more words have no form
  pub other_words : (words : List A) → (length words ≡ 2 → ⊥) → word_of (map bytes_of words) ≡ None
  other_words [] other = refl
  other_words (first ∷ []) other = refl
  other_words (first ∷ second ∷ []) other = absurd (other refl)
  other_words (first ∷ second ∷ third ∷ words) other = refl
