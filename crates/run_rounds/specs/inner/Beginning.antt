-- Whether a round may begin: what each input stream has brought, and what it has left to read.
use Rattle.std.specs.Prelude.{◌≡◌, ◌⊎◌, ℕ, ◌≤◌, true, List, [], ◌++◌, length, None, Some}
use Rattle.hume_base.specs.declared.types.Value.{Value}
use Rattle.hume_model.specs.declared.core_tree.Core.{Core}
use Rattle.hume_net.specs.declared.state.State.{State}
use Rattle.hume_net.specs.Sides.{part_of}
use Rattle.hume_streams.specs.Good.{IsGoodUntil}
use Rattle.hume_streams.specs.Queues.{QueueView, IsQueueOf}
use Rattle.phase_workers.specs.StreamTypes.{type_at}

-- Nothing is left to read for the stream, and no line was bad.
pub record HasAllRead (core : Core) (queues : ℕ → QueueView) (state : State) (n : ℕ) : Type 0 where
  pub ended : (queues n).ended ≡ true
  pub all : (text : List ℕ) (gone : List Value) → IsQueueOf core.types (type_at core n) (queues n) text (gone ++ (part_of state n).coming) []
      → IsGoodUntil core.types (type_at core n) text (gone ++ (part_of state n).coming) None

-- As many values come to the node as are wanted, or all that there are.
abbrev pub MayBegin : Core → (ℕ → QueueView) → ℕ → State → ℕ → Type 0
MayBegin core queues want state n = (want ≤ length (part_of state n).coming) ⊎ HasAllRead core queues state n

-- The line behind those that were read for the stream is bad, and this holds of its number.
abbrev pub StandsBeforeBad : Core → (ℕ → QueueView) → State → ℕ → (ℕ → Type 0) → Type 0
StandsBeforeBad core queues state n Is = (text : List ℕ) (gone : List Value) (rest : List ℕ)
    → IsQueueOf core.types (type_at core n) (queues n) text (gone ++ (part_of state n).coming) rest
    → (number : ℕ) × Is number × IsGoodUntil core.types (type_at core n) text (gone ++ (part_of state n).coming) (Some number)
