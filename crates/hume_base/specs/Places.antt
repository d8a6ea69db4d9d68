-- Where in a source something stands.
use Rattle.std.specs.Prelude.{ℕ, ◌+◌, ◌==◌, List, count_by, take}

-- the line of a place: 1 and the newlines before it
abbrev pub line_at : List ℕ → ℕ → ℕ
line_at bytes place = 1 + count_by (λ byte. byte == 10) (take place bytes)
