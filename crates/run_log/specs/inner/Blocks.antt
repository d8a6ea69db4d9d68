-- The block of a net.
use Rattle.std.specs.Prelude.{ℕ, List}
use Rattle.phase_workers.specs.Engines.{core_of, state_of}
use Rattle.run_log.specs.declared.net.Net.{Net}
use Rattle.run_log.specs.Logs.{block}
use Rattle.run_log.specs.Nets.{engine_in, half_in}

-- its heading and a line for each wire
abbrev pub block_in : Net → ℕ → List (List ℕ)
block_in net superstep = block (core_of (engine_in net)) (half_in net) superstep (state_of (engine_in net))
