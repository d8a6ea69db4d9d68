-- Room for one end of a wire, and for a whole line.
use Rattle.std.specs.Prelude.{ℕ, ◌+◌, ◌*◌}

-- the names of a box and of one of its inputs or outputs, and a dot
abbrev pub END_ROOM : ℕ
END_ROOM = 65

-- a wire of the greatest depth whose values are of the greatest size
abbrev pub MOST_ROOM : ℕ
MOST_ROOM = 160 + 16 * (512 * 1024 + 3)
