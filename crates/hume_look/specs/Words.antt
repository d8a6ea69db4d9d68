-- The words of a call: `why SOURCE`, `bounds SOURCE`, `net SOURCE` or `hints SOURCE`.
use Rattle.std.specs.Prelude.{ℕ, List, [], ◌∷◌, Option, None, Some, if◌then◌else◌, codes}
use Rattle.std.specs.Str.{bytes_eq}
use Rattle.hume_look.specs.declared.looking.Word.{Word}
use Rattle.hume_look.specs.declared.looking.Word.TheVariants.{Why, Bounds, Net, Hints}

-- what is asked by the word of that name
abbrev pub word_named : List ℕ → Option Word
word_named name =
    if bytes_eq name (codes "why") then Some Why
    else if bytes_eq name (codes "bounds") then Some Bounds
    else if bytes_eq name (codes "net") then Some Net
    else if bytes_eq name (codes "hints") then Some Hints
    else None

-- what is asked by two words; by fewer or more nothing is
abbrev pub word_of : List (List ℕ) → Option Word
word_of (word ∷ source ∷ []) = word_named word
word_of _ = None
