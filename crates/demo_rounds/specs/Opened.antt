-- A demo that is open, before its first superstep.
use Rattle.std.specs.Prelude.{◌≡◌, [], length, replicate}
use Rattle.hume_model.specs.declared.core_tree.Core.{Core}
use Rattle.hume_net.specs.Start.{start, no_values}
use Rattle.stream_totals.specs.Totals.{total_of_words}
use Rattle.phase_workers.specs.Engines.{core_of, span_of, state_of}
use Rattle.demo_rounds.specs.declared.counting.TheConstants.{SPAN}
use Rattle.demo_rounds.specs.declared.demo.Demo.{Demo}

-- the core that it runs
abbrev pub core_in : Demo → Core
core_in demo = core_of demo.engine

-- Its engine stands before the first superstep, and nothing is counted.
pub record IsOpened (core : Core) (demo : Demo) : Type 0 where
  pub is_core : core_of demo.engine ≡ core
  pub is_span : span_of demo.engine ≡ SPAN
  pub state : state_of demo.engine ≡ start core (no_values core)
  pub none : demo.totals.items ≡ replicate (length core.nodes) (total_of_words [])
