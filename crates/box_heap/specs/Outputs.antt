-- What a buffer of outputs holds.
use Rattle.std.specs.Prelude.{ℕ, List, length, replicate, Option, Some, None, if◌then◌else◌, Bool}

-- of one output: how many words it has, and these if it is present
pub record OutputView : Type 0 where
  pub size : ℕ
  pub words : Option (List ℕ)

-- an output of so many words that is absent
abbrev pub absent : ℕ → OutputView
absent size = record { size = size; words = None }

-- the output with these words
abbrev pub with_words : OutputView → List ℕ → OutputView
with_words output words = record output { words = Some words }

-- its words are those that there is room for, if it is present
abbrev pub output_in : Bool → List ℕ → OutputView
output_in present words = record { size = length words; words = if present then Some words else None }

-- the output with words that are all 0
abbrev pub begun : OutputView → OutputView
begun output = with_words output (replicate output.size 0)
