-- What a fill does: to the queue, to its port, and for every text.
use Rattle.std.specs.Prelude.{◌≡◌, ℕ, ◌<◌, ◌≤◌, min, max, true, false, List, [], ◌++◌, length, take, map, Some, None, Result, Ok, Err}
use Rattle.std.specs.List.{list_all}
use Rattle.std.specs.Option.{is_some}
use Rattle.std.specs.Io.KnownBytes.{Consumes, IsAtEnd}
use Rattle.hume_base.specs.declared.types.Ty.{Ty}
use Rattle.hume_base.specs.declared.types.Types.{Types}
use Rattle.hume_base.specs.declared.types.Value.{Value}
use Rattle.hume_base.specs.Flat.{flat}
use Rattle.hume_base.specs.Values.{is_value}
use Rattle.hume_ports.specs.Port.{PortView, Rose, last_count}
use Rattle.hume_streams.specs.declared.queue.FillError.{FillError}
use Rattle.hume_streams.specs.declared.queue.FillError.TheVariants.{BadValue, Failed}
use Rattle.hume_streams.specs.Lines.{whole_lines}
use Rattle.hume_streams.specs.Good.{IsGoodUntil}
use Rattle.hume_streams.specs.Queues.{QueueView, IsQueueOf, without_values}

-- These bytes were read from the port, and nothing else was done to it, but that a read may have failed.
pub record Drawn (before after : PortView) (bytes : List ℕ) : Type 0 where
  pub left : Consumes before.left after.left bytes
  pub told : is_some after.left ≡ is_some before.left
  pub keeps : after ≡ record before { left = after.left; read_faults = after.read_faults }

-- The port has no bytes left, or the queue knew that before.
pub record KnowsEnd (old new : QueueView) (after : PortView) (bytes : List ℕ) : Type 0 where
  pub before : old.ended ≡ true → (bytes ≡ []) × (new.ended ≡ true)
  pub now : old.ended ≡ false → new.ended ≡ true → IsAtEnd after.left

-- What the queue held it holds still, with so many more that it has what is wanted, or fewer.
pub record Gains (want : ℕ) (old new : QueueView) : Type 0 where
  pub kept : take (length old.values) new.values ≡ old.values
  pub more : length old.values ≤ length new.values
  pub bound : length new.values ≤ max want (length old.values)
  pub width : new.width ≡ old.width
  pub span : new.span ≡ old.span

-- Where nothing is left of a text for which the queue is right, the values that were read of it are all, and no line is bad.
abbrev pub HasAll : Types → Ty → QueueView → Type 0
HasAll types ty queue =
    (text : List ℕ) (values : List Value) → IsQueueOf types ty (without_values queue) text values [] → IsGoodUntil types ty text values None

-- Of each text for which the queue is right, the values that were read are those before the first bad line, whose number is told,
-- up to the last one that 64 bits can tell.
abbrev pub StandsBefore : Types → Ty → QueueView → ℕ → Type 0
StandsBefore types ty queue line =
    (text : List ℕ) (values : List Value) (rest : List ℕ) → IsQueueOf types ty (without_values queue) text values rest
    → (number : ℕ) × (line ≡ min number last_count) × IsGoodUntil types ty text values (Some number)

-- no whole line is unread, and more may come
pub record HasReadWholeLines (queue : QueueView) : Type 0 where
  pub begun : whole_lines queue.unread ≡ []
  pub goes_on : queue.ended ≡ false

-- Why a fill ended: the queue holds what is wanted, or all there is; or the next line is bad; or a read failed.
abbrev pub EndsFill : Types → Ty → ℕ → QueueView → PortView → PortView → Result (Unit {0}) FillError → Type 0
EndsFill types ty want queue before after (Ok _) =
    (after.read_faults ≡ before.read_faults) × (length queue.values < want → (queue.ended ≡ true) × HasAll types ty queue)
EndsFill types ty want queue before after (Err (BadValue line)) =
    (after.read_faults ≡ before.read_faults) × (length queue.values < want) × StandsBefore types ty queue line
EndsFill types ty want queue before after (Err Failed) =
    Rose before.read_faults after.read_faults × (length queue.values < want) × (before.room ≡ None) × HasReadWholeLines queue

-- A fill read some bytes of the port, and gained the values of their lines. For every text for which the queue was right, with these
-- bytes next, it is right again behind them, with the values that it gained behind those that it had read. What it holds may be of
-- another port: it plays no part in this.
pub record Fills (types : Types) (ty : Ty) (want : ℕ) (old new : QueueView) (before after : PortView) (result : Result (Unit {0}) FillError) : Type 0 where
  pub bytes : List ℕ
  pub gained : List Value
  pub drawn : Drawn before after bytes
  pub end : KnowsEnd old new after bytes
  pub gains : Gains want old new
  pub words : new.values ≡ old.values ++ map (flat types ty) gained
  pub typed : list_all (is_value types ty) gained ≡ true
  pub goes_on : (text : List ℕ) (values : List Value) (rest : List ℕ) → (new.ended ≡ true → rest ≡ [])
      → IsQueueOf types ty (without_values old) text values (bytes ++ rest)
      → IsQueueOf types ty (without_values new) text (values ++ gained) rest
  pub ends : EndsFill types ty want new before after result
