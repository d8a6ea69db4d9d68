-- What an engine keeps between two calls.
use Rattle.std.specs.Prelude.{◌≡◌, ℕ, List, [], map, length, Option, None, Some, slice_get, slice_index_or}
use Rattle.hume_base.specs.Sizes.{size_of}
use Rattle.hume_model.specs.declared.core_tree.StreamC.{StreamC}
use Rattle.hume_model.specs.declared.core_tree.NodeC.TheVariants.{To}
use Rattle.hume_model.specs.declared.core_tree.Core.{Core}
use Rattle.hume_net.specs.declared.state.State.{State}
use Rattle.hume_net.specs.Nodes.{IsInputStream}
use Rattle.hume_net.specs.Parts.{IsStateOf}
use Rattle.hume_streams.specs.declared.queue.InQueue.{InQueue}
use Rattle.hume_streams.specs.declared.log.OutLog.{OutLog}
use Rattle.hume_streams.specs.Queues.{QueueView, queue_view, first_view, without_values}
use Rattle.hume_streams.specs.Logs.{LogView, log_view}
use Rattle.wire_cells.specs.Cells.{CellView}
use Rattle.box_step.specs.declared.nodes.cell.BoxCell.{BoxCell}
use Rattle.box_step.specs.nodes.Lends.{queue_in, log_in}
use Rattle.box_step.specs.nodes.Openings.{Opening, IsOpeningOf}
use Rattle.box_step.specs.nodes.Right.{heap_peak_of, stack_peak_of}
use Rattle.phase_workers.specs.declared.paths.Paths.{Paths}
use Rattle.step_turns.specs.Rounds.{AllRight, AreInPlace}
use Rattle.phase_workers.specs.Engines.{EngineView}
use Rattle.phase_workers.specs.Runnable.{IsRunnable}
use Rattle.phase_workers.specs.StreamTypes.{type_at}
use Rattle.phase_workers.specs.inner.Going.{ArePaths}

-- a queue that may be missing, without its values
abbrev pub queue_without : Option InQueue → QueueView
queue_without None = first_view 0 0
queue_without (Some queue) = without_values (queue_view queue)

-- a log that may be missing, without its values
abbrev pub log_without : Option OutLog → LogView
log_without None = record { values = []; width = 0; span = 0 }
log_without (Some log) = record (log_view log) { values = [] }

-- the queues and logs in these cells, without their values, and the peaks of heap and stack
abbrev pub queues_of : List BoxCell → List QueueView
queues_of nodes = map (λ (cell : BoxCell). queue_without (queue_in cell.kind)) nodes

abbrev pub logs_of : List BoxCell → List LogView
logs_of nodes = map (λ (cell : BoxCell). log_without (log_in cell.kind)) nodes

abbrev pub heaps_of : List BoxCell → List ℕ
heaps_of nodes = map (λ (cell : BoxCell). heap_peak_of cell.kind) nodes

abbrev pub stacks_of : List BoxCell → List ℕ
stacks_of nodes = map (λ (cell : BoxCell). stack_peak_of cell.kind) nodes

-- what callers see of an engine with these fields
abbrev pub engine_view : Core → ℕ → State → List BoxCell → EngineView
engine_view core span state nodes = record {
  core = core;
  span = span;
  state = state;
  queues = queues_of nodes;
  heaps = heaps_of nodes;
  stacks = stacks_of nodes;
}

-- what a round opens with from this state and these cells
abbrev pub opening_at : Core → State → List BoxCell → Opening
opening_at core state nodes = record {
  core = core;
  state = state;
  peaks = λ n. record { heap = slice_index_or (heaps_of nodes) n 0; stack = slice_index_or (stacks_of nodes) n 0; work = 0 };
  queues = λ n. slice_index_or (queues_of nodes) n (first_view 0 0);
  logs = λ n. slice_index_or (logs_of nodes) n (log_without None);
}

-- The queue is for values of an input stream, with room for so many.
pub record IsQueueFor (core : Core) (span n : ℕ) (queue : QueueView) : Type 0 where
  pub width : queue.width ≡ size_of core.types (type_at core n)
  pub span_is : queue.span ≡ span

-- The cells are those of the core's net at the state, each at time 0 and at its place, with room for so many values in each queue
-- and log.
pub record IsWhole (core bare : Core) (paths : Paths) (span : ℕ) (state : State) (nodes : List BoxCell) (home : List (Option CellView))
    : Type 0 where
  pub runnable : IsRunnable core
  pub opens : IsOpeningOf bare (opening_at core state nodes)
  pub right : AllRight (opening_at core state nodes) nodes home
  pub place : AreInPlace bare nodes home
  pub wires : length home ≡ length core.wires
  pub begun : (n : ℕ) (cell : BoxCell) → slice_get nodes n ≡ Some cell → cell.time ≡ 0
  pub paths_are : ArePaths bare paths
  pub queues : (n : ℕ) → IsInputStream core n → IsQueueFor core span n (slice_index_or (queues_of nodes) n (first_view 0 0))
  pub logs : (n : ℕ) (stream : StreamC) → slice_get core.nodes n ≡ Some (To stream) → (slice_index_or (logs_of nodes) n (log_without None)).span ≡ span
  pub fits : IsStateOf core state
