-- Which ports may be those of streams.
use Rattle.std.specs.Prelude.{ℕ, Bool, ◌||◌, List, [], ◌∷◌, ◌++◌, Option, None, Some, if◌then◌else◌}
use Rattle.std.specs.Option.{is_none}
use Rattle.std.specs.Str.{bytes_eq}
use Rattle.hume_model.specs.declared.core_tree.StreamC.{StreamC}
use Rattle.hume_ports.specs.Ports.{place_of, is_among}

-- A port that isn't handed in, is the source's, or is an earlier one, can't be a stream's. Earlier are those of earlier streams, and
-- others that no stream may have.
abbrev pub is_unfit : List (List ℕ) → List ℕ → List (List ℕ) → List ℕ → Bool
is_unfit names source earlier port = is_none (place_of port names) || (bytes_eq port source || is_among port earlier)

-- the line of the first stream with such a port, if there is one
abbrev pub unfit_line : List (List ℕ) → List ℕ → List (List ℕ) → List StreamC → Option ℕ
unfit_line names source earlier [] = None
unfit_line names source earlier (stream ∷ later) =
    if is_unfit names source earlier stream.port then Some stream.line else unfit_line names source (earlier ++ stream.port ∷ []) later
