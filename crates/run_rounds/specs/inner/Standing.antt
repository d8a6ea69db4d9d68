-- Where a run stands after some of its rounds.
use Rattle.std.specs.Prelude.{◌≡◌, ℕ, ◌≤◌, true, List, [], None, Some, IfSome, slice_get}
use Rattle.hume_base.specs.declared.types.Value.{Value}
use Rattle.hume_model.specs.declared.core_tree.NodeC.{NodeC}
use Rattle.hume_model.specs.declared.core_tree.NodeC.TheVariants.{From}
use Rattle.hume_model.specs.declared.core_tree.StreamC.{StreamC}
use Rattle.hume_model.specs.declared.core_tree.Core.{Core}
use Rattle.hume_net.specs.declared.state.State.{State}
use Rattle.hume_net.specs.Lockstep.{lockstep}
use Rattle.hume_net.specs.Sides.{part_of}
use Rattle.hume_net.specs.Start.{start}
use Rattle.hume_net.specs.rounds.Blocked.{blocking}
use Rattle.hume_net.specs.rounds.Pieces.{IsPieceOf}
use Rattle.hume_net.specs.rounds.Rounds.{made}
use Rattle.hume_ports.specs.Port.{PortView}
use Rattle.hume_ports.specs.Ports.{left_of}
use Rattle.hume_ports.specs.Delivery.{Pairs, bytes_for}
use Rattle.hume_streams.specs.Queues.{QueueView}
use Rattle.phase_workers.specs.Engines.{EngineView as Engine}
use Rattle.run_rounds.specs.Inputs.{Inputs, is_bad}
use Rattle.run_rounds.specs.MadeRounds.{IsPeak}
use Rattle.run_rounds.specs.inner.Reading.{HasRead, MayCome, later_of}

-- Whatever may come, the net's state is a piece of the whole run's state after so many supersteps.
abbrev pub IsPieceAt : Core → (ℕ → QueueView) → State → Pairs → (ℕ → List Value) → ℕ → Type 0
IsPieceAt core queues state taken fed steps = (inputs : Inputs) → MayCome core queues taken inputs
    → (earlier : ℕ → List Value) × IsPieceOf core earlier (later_of inputs fed) state (lockstep core (start core inputs.good) steps)

-- No stream has blocked the first rounds.
abbrev pub AreUnblocked : Core → ℕ → ℕ → (ℕ → QueueView) → Pairs → ℕ → Type 0
AreUnblocked core span steps queues taken done = (inputs : Inputs) → MayCome core queues taken inputs
    → (round : ℕ) → 1 ≤ round → round ≤ done → blocking core inputs.good (is_bad inputs) span steps round ≡ None

-- no node has values taken that were not written
abbrev pub IsCleared : Core → State → Type 0
IsCleared core state = (n : ℕ) (node : NodeC) → slice_get core.nodes n ≡ Some node → (part_of state n).taken ≡ []

-- where the net and its queues are after so many rounds
pub record IsAfter (core : Core) (span steps done : ℕ) (queues : ℕ → QueueView) (state : State) (taken : Pairs) (fed : ℕ → List Value) : Type 0 where
  pub read : HasRead core queues taken fed
  pub piece : IsPieceAt core queues state taken fed (made span steps done)
  pub cleared : IsCleared core state
  pub unblocked : AreUnblocked core span steps queues taken done

-- Where a queue has come to its end, all that its port told at first was taken.
abbrev pub EndsAreTold : Core → (ℕ → QueueView) → Pairs → List PortView → Type 0
EndsAreTold core queues taken olds = (n : ℕ) (stream : StreamC) → slice_get core.nodes n ≡ Some (From stream) → (queues n).ended ≡ true
    → IfSome (left_of stream.port olds) (λ left. left ≡ bytes_for stream.port taken)

-- Whatever may come, the engine's peaks are those of the whole run's first supersteps.
abbrev pub ArePeaks : Core → (ℕ → QueueView) → Engine → Pairs → ℕ → Type 0
ArePeaks core queues engine taken supersteps = (inputs : Inputs) → MayCome core queues taken inputs
    → (n : ℕ) (node : NodeC) → slice_get core.nodes n ≡ Some node → IsPeak core inputs.good supersteps engine n
