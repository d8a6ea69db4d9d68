-- Names with numbers.
use Rattle.std.specs.Prelude.{ℕ, List, [], ◌∷◌, ◌++◌, map, Bool, Option, Some, None, if◌then◌else◌, is_some}
use Rattle.std.specs.List.{list_any}
use Rattle.std.specs.Str.{bytes_eq}

-- the name is one of the names
abbrev pub among : List ℕ → List (List ℕ) → Bool
among name names = list_any (λ other. bytes_eq name other) names

abbrev pub names_of : List (List ℕ × ℕ) → List (List ℕ)
names_of entries = map (λ entry. entry.0) entries

-- the number beside a name, or none; the first where there are several
abbrev pub number_of : List ℕ → List (List ℕ × ℕ) → Option ℕ
number_of name [] = None
number_of name (entry ∷ entries) = if bytes_eq name entry.0 then Some entry.1 else number_of name entries

-- with the name at the end, if it isn't there yet
abbrev pub with_name : List (List ℕ × ℕ) → List ℕ → ℕ → List (List ℕ × ℕ)
with_name entries name number = if is_some (number_of name entries) then entries else entries ++ (name, number) ∷ []

-- a table with more names, of which only those are added that aren't there yet
abbrev pub with_names : List (List ℕ × ℕ) → List (List ℕ × ℕ) → List (List ℕ × ℕ)
with_names table [] = table
with_names table (entry ∷ entries) = with_names (with_name table entry.0 entry.1) entries
