-- Cells seen by the first words of their oldest values.
use Rattle.std.specs.Prelude.{ℕ, nat_lt, Bool, List, [], ◌∷◌, length, drop}
use Rattle.wire_cells.specs.Cells.{CellView}

-- the cell holds a value
abbrev pub is_full : CellView → Bool
is_full cell = nat_lt 0 (length cell.values)

-- the first word of the first value; 0 where there is none
abbrev pub first_word : List (List ℕ) → ℕ
first_word [] = 0
first_word ([] ∷ later) = 0
first_word ((word ∷ words) ∷ later) = word

-- the word at the front of the cell
abbrev pub word_in_cell : CellView → ℕ
word_in_cell cell = first_word cell.values

-- the cell without its oldest value
abbrev pub without_first : CellView → CellView
without_first cell = record cell { values = drop 1 cell.values }
