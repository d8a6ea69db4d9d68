-- Where a run that is logged stands, and what its next half makes of it.
use Rattle.std.specs.Prelude.{ℕ, ◌+◌, List, [], length, Option, Some, slice_get}
use Rattle.hume_base.specs.declared.types.Value.{Value}
use Rattle.hume_model.specs.declared.core_tree.NodeC.{NodeC}
use Rattle.hume_model.specs.declared.core_tree.NodeC.TheVariants.{To}
use Rattle.hume_model.specs.declared.core_tree.Core.{Core}
use Rattle.hume_net.specs.declared.state.State.{State}
use Rattle.hume_net.specs.Lockstep.{mid, up}
use Rattle.hume_net.specs.Sides.{numbered, part_of}
use Rattle.phase_workers.specs.Engines.{EngineView, core_of, state_of}
use Rattle.run_log.specs.declared.half.Half.{Half}
use Rattle.run_log.specs.declared.half.Half.TheVariants.{Mid, End}
use Rattle.run_log.specs.declared.net.Net.{Net}
use Rattle.run_log.specs.declared.log_run.LogRun.{LogRun}
use Rattle.run_log.specs.Halves.{half_behind, superstep_behind}
use Rattle.run_log.specs.Logs.{block}
use Rattle.run_log.specs.Nets.{engine_in, half_in, net_or_none}

-- the net of a run
abbrev pub net_of : LogRun → Net
net_of run = net_or_none run.net

-- the engine of a run
abbrev pub engine_of : LogRun → EngineView
engine_of run = engine_in (net_of run)

-- the core that it runs
abbrev pub core_in : LogRun → Core
core_in run = core_of (engine_of run)

-- A run is at a half of a superstep, in a state. The start is the end of superstep 0.
pub record Moment : Type 0 where
  pub half : Half
  pub superstep : ℕ
  pub state : State

-- where a run stands
abbrev pub moment_of : LogRun → Moment
moment_of run = record { half = half_in (net_of run); superstep = run.superstep; state = state_of (engine_of run) }

-- the block of the log there
abbrev pub block_at : Core → Moment → List (List ℕ)
block_at core moment = block core moment.half moment.superstep moment.state

-- what a node has taken, once output streams have forgotten it
abbrev pub remembered : Option NodeC → List Value → List Value
remembered (Some (To stream)) taken = []
remembered _ taken = taken

-- the state in which output streams have forgotten what they took
abbrev pub forgotten : Core → State → State
forgotten core state =
    record state { taken = numbered (length state.taken) (λ node. remembered (slice_get core.nodes node) (part_of state node).taken) }

-- The state after the half behind one of these: output streams forget what they took and all nodes make their execute steps, or all make their super steps.
abbrev pub state_behind : Core → State → Half → State
state_behind core state End = mid core (forgotten core state)
state_behind core state Mid = up core state

-- after the half that follows one of these
abbrev pub after_half : Core → ℕ → State → Half → Moment
after_half core superstep state half =
    record { half = half_behind half; superstep = superstep_behind superstep half; state = state_behind core state half }

-- the next half
abbrev pub next_half : Core → Moment → Moment
next_half core moment = after_half core moment.superstep moment.state moment.half
