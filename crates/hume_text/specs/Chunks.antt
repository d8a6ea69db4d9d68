-- What a chunk holds.
use Rattle.std.specs.Prelude.{ℕ, List}
use Rattle.hume_text.specs.declared.chunk.Chunk.{Chunk}

-- the bytes that were put into a chunk
abbrev pub bytes_in : Chunk → List ℕ
bytes_in chunk = chunk.filled.items

-- how many bytes it takes in all
abbrev pub room_of : Chunk → ℕ
room_of chunk = chunk.room
