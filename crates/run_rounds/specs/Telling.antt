-- What an engine tells at the end of a run.
use Rattle.std.specs.Prelude.{ℕ, List, slice_get}
use Rattle.box_costs.specs.declared.cost.Cost.{Cost}
use Rattle.phase_workers.specs.Engines.{EngineView as Engine}
use Rattle.phase_workers.specs.Engines.{core_of, heap_peak_at, stack_peak_at}
use Rattle.trace_print.specs.TraceLines.{peak_there}

-- the most heap and stack that the node's box has taken in an execute step; work isn't told
abbrev pub tops : Engine → ℕ → Cost
tops engine node = record { heap = heap_peak_at engine node; stack = stack_peak_at engine node; work = 0 }

-- the line of the node's box; a stream has none
abbrev pub top_there : Engine → ℕ → List (List ℕ)
top_there engine node = peak_there (tops engine node) (slice_get (core_of engine).nodes node)
