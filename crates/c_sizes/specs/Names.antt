-- Names that a file declares, each with what is known of it, in the order of the file.
use Rattle.std.specs.Prelude.{ℕ, List, [], ◌∷◌, ◌++◌, Option, Some, None, if◌then◌else◌, is_some}
use Rattle.std.specs.Str.{bytes_eq}

-- what is known of a name, or none; the first where there are several
abbrev pub known : {V : Type 0} → List ℕ → List (List ℕ × V) → Option V
known name [] = None
known name (entry ∷ entries) = if bytes_eq name entry.0 then Some entry.1 else known name entries

-- with the name at the end, if it isn't there yet
abbrev pub with_name : {V : Type 0} → List (List ℕ × V) → List ℕ → V → List (List ℕ × V)
with_name entries name value = if is_some (known name entries) then entries else entries ++ (name, value) ∷ []
