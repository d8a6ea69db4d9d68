-- The ports of the sources of a union.
use Rattle.std.specs.Prelude.{◌≡◌, ℕ, false, List}
use Rattle.std.specs.List.{list_any}
use Rattle.std.specs.Option.{is_none}
use Rattle.hume_ports.specs.Ports.{place_of}

-- There is a port of each of these names.
abbrev pub AreThere : List (List ℕ) → List (List ℕ) → Type 0
AreThere sources names = list_any (λ name. is_none (place_of name names)) sources ≡ false
