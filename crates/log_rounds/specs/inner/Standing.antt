-- Where a logged run stands, at a half of a superstep.
use Rattle.std.specs.Prelude.{◌≡◌, ⊤, ℕ, List}
use Rattle.hume_base.specs.declared.types.Value.{Value}
use Rattle.hume_model.specs.declared.core_tree.Core.{Core}
use Rattle.hume_net.specs.declared.state.State.{State}
use Rattle.hume_net.specs.Parts.{IsStateOf}
use Rattle.hume_net.specs.Start.{start}
use Rattle.hume_net.specs.rounds.Pieces.{IsFilled, IsPieceOf}
use Rattle.hume_ports.specs.Port.{PortView}
use Rattle.hume_ports.specs.Delivery.{Pairs, bytes_for}
use Rattle.hume_streams.specs.Queues.{QueueView}
use Rattle.port_acts.specs.Acts.{Act}
use Rattle.port_acts.specs.Ends.{Made}
use Rattle.phase_workers.specs.Engines.{queue_at}
use Rattle.run_log.specs.declared.half.Half.{Half}
use Rattle.run_log.specs.declared.half.Half.TheVariants.{Mid, End}
use Rattle.run_log.specs.declared.log_run.LogRun.{LogRun}
use Rattle.run_log.specs.Moments.{core_in, engine_of, moment_of}
use Rattle.run_rounds.specs.Inputs.{Inputs}
use Rattle.run_rounds.specs.inner.Reading.{HasRead, MayCome, later_of}
use Rattle.run_rounds.specs.inner.Standing.{AreUnblocked, EndsAreTold}
use Rattle.log_rounds.specs.Opened.{IsApart}
use Rattle.log_rounds.specs.Outcomes.{moment_at}

-- Whatever may come, the net's state is a piece of the whole run's state there.
abbrev pub IsPieceThere : Core → (ℕ → QueueView) → State → Pairs → (ℕ → List Value) → Half → ℕ → Type 0
IsPieceThere core queues state taken fed half superstep = (inputs : Inputs) → MayCome core queues taken inputs
    → (earlier : ℕ → List Value) × IsPieceOf core earlier (later_of inputs fed) state (moment_at core (start core inputs.good) half superstep).state

-- In the midst of a superstep each input stream has what the superstep may need; at an end nothing is said.
abbrev pub IsFilledThere : Core → (ℕ → QueueView) → State → Pairs → (ℕ → List Value) → Half → Type 0
IsFilledThere core queues state taken fed Mid = (inputs : Inputs) → MayCome core queues taken inputs → IsFilled core 1 (later_of inputs fed) state
IsFilledThere core queues state taken fed End = ⊤

-- What a logged run has done, by what comes to its nodes: its acts, and the bytes that it has read of the log's port.
pub record Deeds : Type 0 where
  pub log : List ℕ
  pub bytes : List (List Value) → List ℕ
  pub acts : List (List Value) → List Act

-- The run is at this half of a superstep, and whatever may come, it has done this.
pub record StandsAt (core : Core) (steps : ℕ) (half : Half) (superstep : ℕ) (deeds : Deeds) (olds news : List PortView) (run : LogRun) : Type 0 where
  pub acts : List Act
  pub taken : Pairs
  pub fed : ℕ → List Value
  pub is_core : core_in run ≡ core
  pub is_half : (moment_of run).half ≡ half
  pub is_superstep : (moment_of run).superstep ≡ superstep
  pub parts : IsStateOf core (moment_of run).state
  pub made : Made acts taken olds news
  pub told : EndsAreTold core (queue_at (engine_of run)) taken olds
  pub read : HasRead core (queue_at (engine_of run)) taken fed
  pub piece : IsPieceThere core (queue_at (engine_of run)) (moment_of run).state taken fed half superstep
  pub filled : IsFilledThere core (queue_at (engine_of run)) (moment_of run).state taken fed half
  pub unblocked : AreUnblocked core 1 steps (queue_at (engine_of run)) taken superstep
  pub did : (inputs : Inputs) → MayCome core (queue_at (engine_of run)) taken inputs → acts ≡ deeds.acts inputs.good
  -- where no stream names the log's port
  pub logged : IsApart core deeds.log → (inputs : Inputs) → MayCome core (queue_at (engine_of run)) taken inputs
      → bytes_for deeds.log taken ≡ deeds.bytes inputs.good
