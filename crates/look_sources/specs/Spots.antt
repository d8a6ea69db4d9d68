-- The column of a place. `Places.antt` of `hume_base` has its line.
use Rattle.std.specs.Prelude.{ℕ, ◌+◌, ◌==◌, not, List, take, reverse}
use Rattle.std.specs.List.{prefix_len}

-- the column of a place: 1 and the bytes behind the last newline before it
abbrev pub column_at : List ℕ → ℕ → ℕ
column_at bytes place = 1 + prefix_len (λ byte. not (byte == 10)) (reverse (take place bytes))
