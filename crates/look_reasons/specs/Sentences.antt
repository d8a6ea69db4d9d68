-- What is said of a rule.
use Rattle.std.specs.Prelude.{ℕ, ◌==◌, not, Bool, false, List, [], ◌∷◌}
use Rattle.std.specs.List.{list_all}

-- the text is one line: it isn't empty, and no line ends in it
abbrev pub is_line : List ℕ → Bool
is_line [] = false
is_line (byte ∷ bytes) = list_all (λ letter. not (letter == 10)) (byte ∷ bytes)
