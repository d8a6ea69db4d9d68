-- The acts of a run that is recorded: before each superstep its input streams are read, and after it its two blocks are written.
use Rattle.std.specs.Prelude.{ℕ, true, List, ◌++◌, map}
use Rattle.std.specs.List.{range_with_len}
use Rattle.hume_base.specs.declared.types.Value.{Value}
use Rattle.hume_model.specs.declared.core_tree.Core.{Core}
use Rattle.hume_net.specs.Start.{start}
use Rattle.hume_ports.specs.Delivery.{Pairs}
use Rattle.port_acts.specs.Acts.{Act, write_each}
use Rattle.port_acts.specs.Rounds.{round_acts}
use Rattle.run_log.specs.declared.half.Half.TheVariants.{End}
use Rattle.run_log.specs.Logs.{block, superstep_blocks}
use Rattle.run_rounds.specs.Inputs.{Inputs}
use Rattle.run_rounds.specs.RunActs.{reading}
use Rattle.log_rounds.specs.Supersteps.{blocked_end, blocked_superstep, supersteps_made}

-- each of the lines is written to the log's port
abbrev pub logged : List ℕ → List (List ℕ) → Pairs
logged log lines = map (λ line. (log, line)) lines

-- the start is written
abbrev pub start_acts : Core → List (List Value) → List ℕ → List Act
start_acts core good log = write_each (logged log (block core End 0 (start core good)))

-- the two blocks of a superstep are written
abbrev pub logging : Core → List (List Value) → List ℕ → ℕ → List Act
logging core good log superstep = write_each (logged log (superstep_blocks core (start core good) superstep))

-- the start and the first supersteps
abbrev pub logged_acts : Core → List (List Value) → List ℕ → ℕ → ℕ → List Act
logged_acts core good log steps count =
    start_acts core good log ++ round_acts (reading core good true steps) (logging core good log) (range_with_len 1 count)

-- The start and all supersteps that are made, and the bad line that blocks the next one, if there is one.
abbrev pub record_acts : Core → Inputs → List ℕ → ℕ → List Act
record_acts core inputs log steps =
    logged_acts core inputs.good log steps (supersteps_made core inputs steps) ++ blocked_end core inputs steps (blocked_superstep core inputs steps)
