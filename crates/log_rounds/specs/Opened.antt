-- A logged run that is open, before its first superstep.
use Rattle.std.specs.Prelude.{◌≡◌, ℕ, false, List, [], Some, slice_get}
use Rattle.std.specs.Str.{bytes_eq}
use Rattle.hume_base.specs.Sizes.{size_of}
use Rattle.hume_model.specs.declared.core_tree.NodeC.{NodeC}
use Rattle.hume_model.specs.declared.core_tree.StreamC.{StreamC}
use Rattle.hume_model.specs.declared.core_tree.Core.{Core}
use Rattle.hume_net.specs.Nodes.{IsInputStream}
use Rattle.hume_net.specs.Start.{start, no_values}
use Rattle.hume_streams.specs.Queues.{first_view, IsQueueOf}
use Rattle.phase_workers.specs.Engines.{queue_at}
use Rattle.phase_workers.specs.StreamTypes.{type_at}
use Rattle.run_log.specs.declared.half.Half.TheVariants.{End}
use Rattle.run_log.specs.declared.log_run.LogRun.{LogRun}
use Rattle.run_log.specs.Moments as moments
use Rattle.run_log.specs.Moments.{engine_of, moment_of}
use Rattle.run_rounds.specs.Streams.{stream_of}
use Rattle.log_rounds.specs.declared.logged_run.LoggedRun.{LoggedRun}

-- the run whose halves are logged
abbrev pub run_in : LoggedRun → LogRun
run_in logged = logged.run

-- the core that it runs
abbrev pub core_in : LoggedRun → Core
core_in logged = moments.core_in logged.run

-- A run before its first superstep, of which nothing was read.
pub record IsFresh (core : Core) (run : LogRun) : Type 0 where
  pub is_core : moments.core_in run ≡ core
  pub moment : moment_of run ≡ record { half = End; superstep = 0; state = start core (no_values core) }
  pub begun : (n : ℕ) → IsInputStream core n → queue_at (engine_of run) n ≡ first_view (size_of core.types (type_at core n)) 1
  pub right : (n : ℕ) → IsInputStream core n → (text : List ℕ) → IsQueueOf core.types (type_at core n) (queue_at (engine_of run) n) text [] text

-- No stream names the port.
abbrev pub IsApart : Core → List ℕ → Type 0
IsApart core port = (n : ℕ) (node : NodeC) (stream : StreamC) → slice_get core.nodes n ≡ Some node → stream_of node ≡ Some stream
    → bytes_eq stream.port port ≡ false
