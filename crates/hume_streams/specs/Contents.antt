-- What is in the parts of queues and logs.
use Rattle.std.specs.Prelude.{ℕ, zero, suc, List, [], ◌∷◌, take, drop}
use Rattle.hume_streams.specs.declared.rows.Rows.{Rows}
use Rattle.hume_streams.specs.declared.buffer.LineBuffer.{LineBuffer}

-- so many rows of that width from the front on
abbrev pub cut_rows : ℕ → ℕ → List ℕ → List (List ℕ)
cut_rows width zero words = []
cut_rows width (suc count) words = take width words ∷ cut_rows width count (drop width words)

-- the rows that were pushed and not dropped
abbrev pub rows_in : Rows → List (List ℕ)
rows_in rows = cut_rows rows.width rows.count (drop rows.start rows.words.items)

-- the bytes that came from a port and were not taken as lines
abbrev pub unread_in : LineBuffer → List ℕ
unread_in buffer = drop buffer.start buffer.bytes.items
