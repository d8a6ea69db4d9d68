-- The crossing wires among the first wires of a plan.
use Rattle.std.specs.Prelude.{◌≡◌, ◌<◌, ℕ, List, Some, slice_get, slice_index}
use Rattle.hume_net.specs.declared.plan.Plan.{Plan}
use Rattle.hume_net.specs.Plan.{producer_of, consumer_of}

-- Both ends of the wire lie in one group.
abbrev pub AreJoined : Plan → List ℕ → ℕ → Type 0
AreJoined plan group w = slice_index group (producer_of plan w) ≡ slice_index group (consumer_of plan w)

-- The list has exactly the crossing wires with numbers less than `below`, each once.
pub record AreCrossing (plan : Plan) (group : List ℕ) (below : ℕ) (crossing : List ℕ) : Type 0 where
  pub crosses : (place w : ℕ) → slice_get crossing place ≡ Some w → (w < below) × (AreJoined plan group w → ⊥)
  pub all : (w : ℕ) → w < below → (AreJoined plan group w → ⊥) → (place : ℕ) × (slice_get crossing place ≡ Some w)
  pub once : (j k w : ℕ) → slice_get crossing j ≡ Some w → slice_get crossing k ≡ Some w → j ≡ k
