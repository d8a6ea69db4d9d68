-- How the rounds of a run end, before anything is told of them.
use Rattle.std.specs.Prelude.{◌≡◌, ℕ, Bool, List, [], Option, None, Some, slice_get, Result, Ok, Err}
use Rattle.hume_base.specs.declared.types.Value.{Value}
use Rattle.hume_model.specs.declared.core_tree.NodeC.{NodeC}
use Rattle.hume_model.specs.declared.core_tree.Core.{Core}
use Rattle.hume_net.specs.Start.{start}
use Rattle.hume_ports.specs.declared.port.Failed.{Failed}
use Rattle.hume_ports.specs.Port.{PortView}
use Rattle.hume_ports.specs.Delivery.{Pairs}
use Rattle.net_costs.specs.Steps.{peaks}
use Rattle.port_acts.specs.Ends.{Made, Fails}
use Rattle.phase_workers.specs.Engines.{EngineView as Engine}
use Rattle.phase_workers.specs.Engines.{heap_peak_at, stack_peak_at}
use Rattle.run_rounds.specs.declared.bad_line.BadLine.{BadLine}
use Rattle.run_rounds.specs.Inputs.{Inputs}
use Rattle.run_rounds.specs.Writes.{span_of, blocked_by, blocked_round}
use Rattle.run_rounds.specs.RunActs.{made_acts, run_few}
use Rattle.run_rounds.specs.Runs.{Comes}

-- the engine's peak of a node is that of so many supersteps
pub record IsPeak (core : Core) (good : List (List Value)) (supersteps : ℕ) (engine : Engine) (n : ℕ) : Type 0 where
  pub heap : heap_peak_at engine n ≡ (peaks core (start core good) supersteps n).heap
  pub stack : stack_peak_at engine n ≡ (peaks core (start core good) supersteps n).stack

-- No round is blocked, and each peak of the engine is that of the whole run.
pub record LeavesPeaks (core : Core) (inputs : Inputs) (traced : Bool) (steps : ℕ) (engine : Engine) : Type 0 where
  pub none : blocked_round core inputs (span_of traced) steps ≡ None
  pub peaks : (n : ℕ) (node : NodeC) → slice_get core.nodes n ≡ Some node → IsPeak core inputs.good steps engine n

-- The first blocked round is blocked by this line of its stream.
pub record IsBlockedBy (core : Core) (inputs : Inputs) (traced : Bool) (steps : ℕ) (bad : BadLine) : Type 0 where
  pub round : ℕ
  pub first : blocked_round core inputs (span_of traced) steps ≡ Some round
  pub by : blocked_by core inputs traced steps round ≡ Some bad.node
  pub line : inputs.bad bad.node ≡ Some bad.line

abbrev pub Leaves : Core → Inputs → Bool → ℕ → Engine → Option BadLine → Type 0
Leaves core inputs traced steps engine None = LeavesPeaks core inputs traced steps engine
Leaves core inputs traced steps engine (Some bad) = IsBlockedBy core inputs traced steps bad

-- The rounds were made that the texts of the ports give: all of them, or those before a bad line.
pub record MakesRounds (core : Core) (traced : Bool) (steps : ℕ) (olds news : List PortView) (engine : Engine) (bad : Option BadLine) : Type 0 where
  pub comes : Comes core olds
  pub taken : Pairs
  pub made : Made (made_acts core comes.inputs traced steps) taken olds news
  pub leaves : Leaves core comes.inputs traced steps engine bad

-- One of their acts has failed: a write, or a read for which too few values had come.
pub record FailsInRounds (core : Core) (traced : Bool) (steps : ℕ) (olds news : List PortView) : Type 0 where
  pub comes : Comes core olds
  pub fails : Fails (run_few core) [] (made_acts core comes.inputs traced steps) olds news

abbrev pub RoundsEnd : Core → Bool → ℕ → List PortView → List PortView → Engine → Result (Option BadLine) Failed → Type 0
RoundsEnd core traced steps olds news engine (Ok bad) = MakesRounds core traced steps olds news engine bad
RoundsEnd core traced steps olds news engine (Err failed) = FailsInRounds core traced steps olds news
