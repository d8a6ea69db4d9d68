-- What a queue of read values is at, and for which text that is right.
use Rattle.std.specs.Prelude.{◌≡◌, ℕ, min, Bool, true, false, List, [], ◌∷◌, ◌++◌, map, length}
use Rattle.hume_base.specs.declared.types.Ty.{Ty}
use Rattle.hume_base.specs.declared.types.Types.{Types}
use Rattle.hume_base.specs.declared.types.Value.{Value}
use Rattle.hume_base.specs.Flat.{flat}
use Rattle.hume_text.specs.Printed.{AreWordsOf}
use Rattle.hume_ports.specs.Port.{last_count}
use Rattle.hume_streams.specs.declared.queue.InQueue.{InQueue}
use Rattle.hume_streams.specs.Lines.{lines_of}
use Rattle.hume_streams.specs.Good.{HoldValues, empty_at_end}
use Rattle.hume_streams.specs.Contents.{rows_in, unread_in}

pub record QueueView : Type 0 where
  -- the words of the values that it holds
  pub values : List (List ℕ)
  -- how many words a value has, and how many values there is room for
  pub width : ℕ
  pub span : ℕ
  -- the bytes that came from the port and were not read as lines yet
  pub unread : List ℕ
  -- whether a read of the port gave nothing
  pub ended : Bool
  -- how many lines were read, and how many of the last ones are empty
  pub lines : ℕ
  pub empty : ℕ

-- what a queue is at
abbrev pub queue_view : InQueue → QueueView
queue_view queue = record {
  values = rows_in queue.rows;
  width = queue.rows.width;
  span = queue.rows.span;
  unread = unread_in queue.buffer;
  ended = queue.buffer.ended;
  lines = queue.lines;
  empty = queue.empty_lines;
}

-- a queue before the first byte
abbrev pub first_view : ℕ → ℕ → QueueView
first_view width span = record { values = []; width = width; span = span; unread = []; ended = false; lines = 0; empty = 0 }

-- the same queue without the values that it holds: what it is at in its port
abbrev pub without_values : QueueView → QueueView
without_values queue = record queue { values = [] }

-- a queue before the first byte of another port, which keeps the values that it holds
abbrev pub rebound : QueueView → QueueView
rebound queue = record (first_view queue.width queue.span) { values = queue.values }

-- The queue is right for this text, of which the port has the rest left: the lines that were read are not bad and hold the
-- values that were given away and then those that the queue holds, and the lines that follow are those of the unread bytes
-- and the rest.
pub record IsQueueOf (types : Types) (ty : Ty) (queue : QueueView) (text : List ℕ) (given : List Value) (rest : List ℕ) : Type 0 where
  pub read : List (List ℕ)
  pub held : List Value
  pub split : lines_of text ≡ read ++ lines_of (queue.unread ++ rest)
  pub values : HoldValues types ty read (given ++ held)
  pub words : queue.values ≡ map (flat types ty) held
  pub lines : queue.lines ≡ min (length read) last_count
  pub empty : queue.empty ≡ empty_at_end read
  pub ended : queue.ended ≡ true → rest ≡ []

-- The queue has given its first value away, for this text and what it gave before.
pub record GivesFirst (types : Types) (ty : Ty) (old new : QueueView) (text : List ℕ) (given : List Value) (rest : List ℕ) : Type 0 where
  pub value : Value
  pub words : List ℕ
  pub first : old.values ≡ words ∷ new.values
  pub same : AreWordsOf types ty words value
  pub right : IsQueueOf types ty new text (given ++ value ∷ []) rest
