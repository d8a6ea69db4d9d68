-- The words of a call, by their places.
use Rattle.std.proofs.Common.{◌≡◌, ℕ, ◌<◌, List, String, Some, length, slice_get, slice_index_or, string_bytes, ap, sym, ◌∙◌}
use Rattle.std.proofs.lemmas.Option.{slice_get-get_or}
use Rattle.look_told.specs.Words.{IsWord, text_of}

pub is_word : {A : Type 0} (words : List (String A)) (place : ℕ) (word : String A) (text : List ℕ) → place < length words
    → word ≡ slice_index_or words place word → text ≡ string_bytes word → IsWord words text
is_word words place word text below at is = record {
  place = place;
  is = is ∙ sym (ap text_of (slice_get-get_or words place word below ∙ ap (λ it. Some it) (sym at)));
}
