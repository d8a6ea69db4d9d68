-- What a fill of an input stream does: to its queue, to the net, and to all ports.
use Rattle.std.specs.Prelude.{◌≡◌, ◌⊎◌, ℕ, ◌-◌, ◌<◌, ◌≤◌, min, true, false, List, [], ◌++◌, length, Some, None, Result, Ok, Err, slice_set, slice_index_or}
use Rattle.std.specs.Io.KnownBytes.{IsAtEnd}
use Rattle.hume_base.specs.declared.types.Value.{Value}
use Rattle.hume_net.specs.declared.state.State.{State}
use Rattle.hume_ports.specs.Port.{PortView, last_count}
use Rattle.hume_ports.specs.Ports.{left_of}
use Rattle.hume_streams.specs.declared.queue.FillError.{FillError}
use Rattle.hume_streams.specs.declared.queue.FillError.TheVariants.{BadValue, Failed}
use Rattle.hume_streams.specs.Good.{IsGoodUntil}
use Rattle.hume_streams.specs.Queues.{IsQueueOf}
use Rattle.hume_streams.specs.Fills.{HasReadWholeLines}
use Rattle.hume_streams.specs.places.FillsOfPorts.{ReadsBytes}
use Rattle.phase_workers.specs.Engines.{EngineView, core_of, queue_at, state_of, coming_at}
use Rattle.phase_workers.specs.StreamTypes.{type_at}

-- the state in which these values come to the node too
abbrev pub fed_at : ℕ → List Value → State → State
fed_at node values state = record state { coming = slice_set state.coming node (slice_index_or state.coming node [] ++ values) }

-- as many values come to the node as are wanted
abbrev pub HasEnough : ℕ → EngineView → ℕ → Type 0
HasEnough want engine node = want ≤ length (coming_at engine node)

-- Nothing is left to read. Of each text for which the queue is right, the values that were read are all, and no line is bad.
pub record HasReadAll (engine : EngineView) (node : ℕ) : Type 0 where
  pub ended : (queue_at engine node).ended ≡ true
  pub all : (text : List ℕ) (read : List Value)
      → IsQueueOf (core_of engine).types (type_at (core_of engine) node) (queue_at engine node) text read []
      → IsGoodUntil (core_of engine).types (type_at (core_of engine) node) text read None

-- The next line is bad. Of each text for which the queue is right, the values that were read are those before the first bad line,
-- whose number is told, up to the last one that 64 bits can tell.
abbrev pub StandsBefore : EngineView → ℕ → ℕ → Type 0
StandsBefore engine node line = (text : List ℕ) (read : List Value) (rest : List ℕ)
    → IsQueueOf (core_of engine).types (type_at (core_of engine) node) (queue_at engine node) text read rest
    → (number : ℕ) × (line ≡ min number last_count)
    × IsGoodUntil (core_of engine).types (type_at (core_of engine) node) text read (Some number)

-- Too few values come, and no whole line is unread.
pub record HasReadTooFew (want : ℕ) (engine : EngineView) (node : ℕ) : Type 0 where
  pub few : length (coming_at engine node) < want
  pub whole : HasReadWholeLines (queue_at engine node)

-- Why a fill ended.
abbrev pub EndsFill : ℕ → EngineView → ℕ → Result (Unit {0}) FillError → Type 0
EndsFill want engine node (Ok _) = HasEnough want engine node ⊎ HasReadAll engine node
EndsFill want engine node (Err (BadValue line)) = (HasEnough want engine node → ⊥) × StandsBefore engine node line
EndsFill want engine node (Err Failed) = HasReadTooFew want engine node

-- A fill read some bytes of the first port with that name, and the values of their lines come to the node. For every text for
-- which the queue was right, with these bytes next, it is right again behind them, with these values behind those that it had read.
pub record FillsNode (want : ℕ) (old new : EngineView) (node : ℕ) (name : List ℕ) (olds news : List PortView)
    (result : Result (Unit {0}) FillError) : Type 0 where
  pub bytes : List ℕ
  pub values : List Value
  pub reads : ReadsBytes name bytes olds news result
  pub state : state_of new ≡ fed_at node values (state_of old)
  -- no more come than are wanted
  pub bound : length values ≤ want - length (coming_at old node)
  pub others : (other : ℕ) → (other ≡ node → ⊥) → queue_at new other ≡ queue_at old other
  -- it never reads on once a read gave nothing, and where the port tells what it has left there is then nothing
  pub stays : (queue_at old node).ended ≡ true → (bytes ≡ []) × ((queue_at new node).ended ≡ true)
  pub ended : (queue_at old node).ended ≡ false → (queue_at new node).ended ≡ true → IsAtEnd (left_of name news)
  pub goes_on : (text : List ℕ) (read : List Value) (rest : List ℕ) → ((queue_at new node).ended ≡ true → rest ≡ [])
      → IsQueueOf (core_of old).types (type_at (core_of old) node) (queue_at old node) text read (bytes ++ rest)
      → IsQueueOf (core_of old).types (type_at (core_of old) node) (queue_at new node) text (read ++ values) rest
  pub ends : EndsFill want new node result
