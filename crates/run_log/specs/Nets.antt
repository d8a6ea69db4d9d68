-- A net at a half of a superstep.
use Rattle.std.specs.Prelude.{[], Option, None, Some}
use Rattle.phase_workers.specs.Engines.{EngineView}
use Rattle.run_log.specs.declared.half.Half.{Half}
use Rattle.run_log.specs.declared.half.Half.TheVariants.{Mid, End}
use Rattle.run_log.specs.declared.net.Net.{Net}
use Rattle.run_log.specs.declared.net.Net.TheVariants.{Whole, Midst}

-- the engine of a net
abbrev pub engine_in : Net → EngineView
engine_in (Whole engine) = engine
engine_in (Midst halfway) = halfway

-- the half of a superstep that a net is at; the start is an end
abbrev pub half_in : Net → Half
half_in (Whole engine) = End
half_in (Midst halfway) = Mid

-- an engine of nothing; no run has it
abbrev pub no_engine : EngineView
no_engine = record {
  core = record { types = record { sums = [] }; exns = []; funs = []; nodes = []; wires = [] };
  span = 0;
  state = record { wires = []; pending = []; orders = []; coming = []; taken = [] };
  queues = [];
  heaps = [];
  stacks = [];
}

-- the net of a run, which always has one
abbrev pub net_or_none : Option Net → Net
net_or_none None = Whole no_engine
net_or_none (Some net) = net
