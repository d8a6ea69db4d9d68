-- The words of a call.
use Rattle.std.specs.Prelude.{◌≡◌, ℕ, ◌||◌, Bool, List, [], Option, None, Some, String, codes, slice_get, string_bytes}
use Rattle.std.specs.Str.{bytes_eq}

-- the text of a word, if there is one
abbrev pub text_of : {A : Type 0} → Option (String A) → List ℕ
text_of None = []
text_of (Some word) = string_bytes word

-- a command of the program that looks at a source
abbrev pub is_look_command : List ℕ → Bool
is_look_command name = bytes_eq name (codes "why") || bytes_eq name (codes "bounds") || bytes_eq name (codes "net") || bytes_eq name (codes "hints")

-- one of the words has that text
pub record IsWord {A : Type 0} (words : List (String A)) (text : List ℕ) : Type 0 where
  pub place : ℕ
  pub is : text ≡ text_of (slice_get words place)
