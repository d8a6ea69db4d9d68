-- The lines of a text.
use Rattle.std.specs.Prelude.{ℕ, ◌-◌, ◌==◌, Bool, List, [], ◌∷◌, length, take, if◌then◌else◌}
use Rattle.std.specs.List.{list_all, slice_index}
use Rattle.hume_text.specs.Read.{is_blank}

-- one more byte in front of the first line
abbrev pub in_front : ℕ → List (List ℕ) → List (List ℕ)
in_front byte [] = (byte ∷ []) ∷ []
in_front byte (line ∷ lines) = (byte ∷ line) ∷ lines

-- The lines without their newlines. A line ends at its newline or where the bytes end, and none begins there.
abbrev pub lines_of : List ℕ → List (List ℕ)
lines_of [] = []
lines_of (byte ∷ bytes) = if byte == 10 then [] ∷ lines_of bytes else in_front byte (lines_of bytes)

-- a line without its final carriage return, if it has one
abbrev pub without_return : List ℕ → List ℕ
without_return line = if slice_index line (length line - 1) == 13 then take (length line - 1) line else line

-- nothing but spaces and tabs
abbrev pub is_empty : List ℕ → Bool
is_empty line = list_all is_blank (without_return line)

-- one more byte in front of those of whole lines, if there is one
abbrev pub in_front_of_whole : ℕ → List ℕ → List ℕ
in_front_of_whole byte [] = []
in_front_of_whole byte (first ∷ bytes) = byte ∷ first ∷ bytes

-- The bytes of the lines that have their newline: all up to the last newline, with it.
abbrev pub whole_lines : List ℕ → List ℕ
whole_lines [] = []
whole_lines (byte ∷ bytes) = if byte == 10 then byte ∷ whole_lines bytes else in_front_of_whole byte (whole_lines bytes)
