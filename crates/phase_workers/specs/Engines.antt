-- What an engine is at.
use Rattle.std.specs.Prelude.{◌≡◌, ℕ, List, slice_index_or}
use Rattle.hume_base.specs.declared.types.Value.{Value}
use Rattle.hume_model.specs.declared.core_tree.Core.{Core}
use Rattle.hume_net.specs.declared.state.State.{State}
use Rattle.hume_net.specs.Sides.{part_of}
use Rattle.hume_streams.specs.Queues.{QueueView, first_view, without_values}
use Rattle.phase_workers.specs.RightQueues.{IsRightBehind}
use Rattle.phase_workers.specs.StreamTypes.{type_at}

-- The core that it runs, for how many values of a stream it has room, and the state that its net is in. By the number of each node:
-- what was read for an input stream, without the values; and the most words of heap and of stack that a box took.
pub record EngineView : Type 0 where
  pub core : Core
  pub span : ℕ
  pub state : State
  pub queues : List QueueView
  pub heaps : List ℕ
  pub stacks : List ℕ

-- the core that it runs
abbrev pub core_of : EngineView → Core
core_of engine = engine.core

-- for how many values of a stream it has room
abbrev pub span_of : EngineView → ℕ
span_of engine = engine.span

-- the state that its net is in
abbrev pub state_of : EngineView → State
state_of engine = engine.state

-- what was read of the present port of an input stream, without the values, which come to the node
abbrev pub queue_at : EngineView → ℕ → QueueView
queue_at engine node = without_values (slice_index_or engine.queues node (first_view 0 0))

-- the values that have yet to come from an input stream
abbrev pub coming_at : EngineView → ℕ → List Value
coming_at engine node = (part_of (state_of engine) node).coming

-- the most words of heap that the node's box has taken in an execute step; 0 of a stream
abbrev pub heap_peak_at : EngineView → ℕ → ℕ
heap_peak_at engine node = slice_index_or engine.heaps node 0

-- the most words of stack
abbrev pub stack_peak_at : EngineView → ℕ → ℕ
stack_peak_at engine node = slice_index_or engine.stacks node 0

-- no box has taken more since
pub record ArePeaksKept (old new : EngineView) : Type 0 where
  pub heap : (node : ℕ) → heap_peak_at new node ≡ heap_peak_at old node
  pub stack : (node : ℕ) → stack_peak_at new node ≡ stack_peak_at old node

-- The queue of an input stream is right behind the bytes that were read of its present port, which held these values.
abbrev pub IsRight : EngineView → ℕ → List ℕ → List Value → Type 0
IsRight engine node read given = IsRightBehind (core_of engine).types (type_at (core_of engine) node) (queue_at engine node) read given
