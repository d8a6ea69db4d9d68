-- What a stack holds.
use Rattle.std.specs.Prelude.{ℕ, ◌+◌, ◌-◌, max, List, [], ◌∷◌, ◌++◌, length, take, drop, Option, slice_get}

-- its words, the deepest first; the most that there were; and for how many there is room
pub record StackView : Type 0 where
  pub words : List ℕ
  pub peak : ℕ
  pub room : ℕ

-- the word at a depth, 0 at the top
abbrev pub at_depth : ℕ → List ℕ → Option ℕ
at_depth depth words = slice_get words (length words - (1 + depth))

-- all but the last words
abbrev pub under : ℕ → List ℕ → List ℕ
under count words = take (length words - count) words

-- the last words
abbrev pub last : ℕ → List ℕ → List ℕ
last count words = drop (length words - count) words

-- the stack once the word is pushed
abbrev pub with_word : StackView → ℕ → StackView
with_word stack word = record stack { words = stack.words ++ word ∷ []; peak = max stack.peak (length stack.words + 1) }

-- the stack once these are pushed, one after another
abbrev pub with_words : StackView → List ℕ → StackView
with_words stack [] = stack
with_words stack (word ∷ words) = with_words (with_word stack word) words
