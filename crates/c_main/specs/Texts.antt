-- Texts from lines with gaps, and strings of C.
use Rattle.std.specs.Prelude.{ℕ, ◌-◌, ◌+◌, ◌/◌, ◌%◌, ◌==◌, ◌&&◌, ◌||◌, nat_le, Bool, true, false, List, [], ◌∷◌, ◌++◌, Option, Some, None, map, codes, if◌then◌else◌, slice_get}
use Rattle.std.specs.List.{flat_map}
use Rattle.c_tree.specs.Words.{newline}

abbrev pub text_or_none : Option (List ℕ) → List ℕ
text_or_none None = []
text_or_none (Some text) = text

-- the part that a digit stands for
abbrev pub part_of : List (List ℕ) → ℕ → List ℕ
part_of parts digit = text_or_none (slice_get parts (digit - 48))

-- a line in which `@` and a digit stand for a part, from behind an `@` on or not
abbrev pub filled_from : List (List ℕ) → Bool → List ℕ → List ℕ
filled_from parts behind [] = []
filled_from parts true (digit ∷ bytes) = part_of parts digit ++ filled_from parts false bytes
filled_from parts false (byte ∷ bytes) = if byte == 64 then filled_from parts true bytes else byte ∷ filled_from parts false bytes

abbrev pub filled_line : List (List ℕ) → List ℕ → List ℕ
filled_line parts line = filled_from parts false line ++ newline

-- lines in which `@` and a digit stand for the part of that place
unfoldable pub filled_lines : List (List ℕ) → List (List ℕ) → List ℕ
filled_lines lines parts = flat_map (filled_line parts) lines

-- lines that are a constant of the code
abbrev pub Lines : Type 0
Lines = List record { now : List ℕ }

-- the same of a constant
abbrev pub filled : Lines → List (List ℕ) → List ℕ
filled lines parts = filled_lines (map (λ line. line.now) lines) parts

-- what each of a list gives by its place, where the first one has that place
abbrev pub each_from : {A B : Type 0} → (ℕ → A → List B) → ℕ → List A → List B
each_from gives place [] = []
each_from gives place (one ∷ others) = gives place one ++ each_from gives (place + 1) others

-- a byte by its three digits to the base 8
abbrev pub by_digits : ℕ → List ℕ
by_digits byte = 92 ∷ (48 + byte / 64) ∷ (48 + byte / 8 % 8) ∷ (48 + byte % 8) ∷ []

-- whether the byte has a meaning of its own in a string of C
abbrev pub is_sign : ℕ → Bool
is_sign byte = (byte == 34) || ((byte == 92) || (byte == 63))

-- a byte as it is written in a string of C
abbrev pub byte_text : ℕ → List ℕ
byte_text byte = if is_sign byte then 92 ∷ byte ∷ [] else (if nat_le 32 byte && nat_le byte 126 then byte ∷ [] else by_digits byte)

-- a string of C
abbrev pub string_text : List ℕ → List ℕ
string_text bytes = codes "\"" ++ (flat_map byte_text bytes ++ codes "\"")
