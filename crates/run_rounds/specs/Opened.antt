-- A run that is open, before its first superstep.
use Rattle.std.specs.Prelude.{◌≡◌, ℕ, Bool, List, []}
use Rattle.hume_base.specs.Sizes.{size_of}
use Rattle.hume_model.specs.declared.core_tree.Core.{Core}
use Rattle.hume_net.specs.Nodes.{IsInputStream}
use Rattle.hume_net.specs.Start.{start, no_values}
use Rattle.hume_streams.specs.Queues.{first_view, IsQueueOf}
use Rattle.phase_workers.specs.Engines.{EngineView as Engine}
use Rattle.run_rounds.specs.declared.run.Running.{Running}
use Rattle.phase_workers.specs.Engines.{core_of, span_of as room_of, state_of, queue_at, heap_peak_at, stack_peak_at}
use Rattle.phase_workers.specs.StreamTypes.{type_at}
use Rattle.run_rounds.specs.Writes.{span_of}

-- the engine of the run
abbrev pub engine_in : Running → Engine
engine_in running = running.engine

-- the core that it runs
abbrev pub core_in : Running → Core
core_in running = core_of running.engine

-- whether all wires are told after each superstep
abbrev pub traced_in : Running → Bool
traced_in running = running.traced

-- An engine with room for so many values of each stream, before the first superstep: nothing was read, and no box has taken anything.
pub record IsFresh (core : Core) (span : ℕ) (engine : Engine) : Type 0 where
  pub is_core : core_of engine ≡ core
  pub is_span : room_of engine ≡ span
  pub state : state_of engine ≡ start core (no_values core)
  pub peaks : (n : ℕ) → (heap_peak_at engine n ≡ 0) × (stack_peak_at engine n ≡ 0)
  pub begun : (n : ℕ) → IsInputStream core n → queue_at engine n ≡ first_view (size_of core.types (type_at core n)) span
  pub right : (n : ℕ) → IsInputStream core n → (text : List ℕ) → IsQueueOf core.types (type_at core n) (queue_at engine n) text [] text

-- So is that of the run, and each round has room.
pub record IsOpened (core : Core) (traced : Bool) (running : Running) : Type 0 where
  pub is_traced : traced_in running ≡ traced
  pub fresh : IsFresh core (span_of traced) running.engine
