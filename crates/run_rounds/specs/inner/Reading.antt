-- What was read so far for the input streams of a core, and what may come of it.
use Rattle.std.specs.Prelude.{◌≡◌, ℕ, true, List, [], ◌++◌, length, drop, None, Some, slice_get}
use Rattle.hume_base.specs.declared.types.Value.{Value}
use Rattle.hume_model.specs.declared.core_tree.NodeC.{NodeC}
use Rattle.hume_model.specs.declared.core_tree.NodeC.TheVariants.{From}
use Rattle.hume_model.specs.declared.core_tree.StreamC.{StreamC}
use Rattle.hume_model.specs.declared.core_tree.Core.{Core}
use Rattle.hume_net.specs.Nodes.{IsInputStream}
use Rattle.hume_ports.specs.Delivery.{Pairs, bytes_for}
use Rattle.hume_streams.specs.Good.{IsGoodUntil}
use Rattle.hume_streams.specs.Queues.{QueueView, IsQueueOf}
use Rattle.phase_workers.specs.StreamTypes.{type_at}
use Rattle.hume_net.specs.rounds.Pieces.{listed}
use Rattle.run_rounds.specs.Inputs.{Inputs}

-- Of the bytes that were read these values have come to each node: each queue is right for each text that goes on as was read.
pub record HasRead (core : Core) (queues : ℕ → QueueView) (taken : Pairs) (fed : ℕ → List Value) : Type 0 where
  pub given : (n : ℕ) → (queues n).values ≡ []
  pub right : (n : ℕ) (stream : StreamC) → slice_get core.nodes n ≡ Some (From stream) → (rest : List ℕ) → ((queues n).ended ≡ true → rest ≡ [])
      → IsQueueOf core.types (type_at core n) (queues n) (bytes_for stream.port taken ++ rest) (fed n) rest
  pub none : (n : ℕ) (node : NodeC) → slice_get core.nodes n ≡ Some node → (IsInputStream core n → ⊥) → fed n ≡ []

-- These inputs may come: those of texts that go on as was read.
pub record MayCome (core : Core) (queues : ℕ → QueueView) (taken : Pairs) (inputs : Inputs) : Type 0 where
  pub count : length inputs.good ≡ length core.nodes
  pub each : (n : ℕ) (stream : StreamC) → slice_get core.nodes n ≡ Some (From stream)
      → (rest : List ℕ) × ((queues n).ended ≡ true → rest ≡ [])
      × IsGoodUntil core.types (type_at core n) (bytes_for stream.port taken ++ rest) (listed inputs.good n) (inputs.bad n)
  pub others : (n : ℕ) (node : NodeC) → slice_get core.nodes n ≡ Some node → (IsInputStream core n → ⊥) → (listed inputs.good n ≡ []) × (inputs.bad n ≡ None)

-- the values of each node that come later than those that came
abbrev pub later_of : Inputs → (ℕ → List Value) → ℕ → List Value
later_of inputs fed n = drop (length (fed n)) (listed inputs.good n)
