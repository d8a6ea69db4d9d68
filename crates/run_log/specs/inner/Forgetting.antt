-- Output streams that forget, node by node, what they took.
use Rattle.std.specs.Prelude.{◌≡◌, ◌≤◌, ◌<◌, ℕ, [], length, slice_get, slice_set}
use Rattle.hume_model.specs.declared.core_tree.Core.{Core}
use Rattle.hume_net.specs.declared.state.State.{State}
use Rattle.hume_net.specs.Nodes.{IsOutputStream}
use Rattle.hume_net.specs.Sides.{part_of}
use Rattle.phase_workers.specs.Engines.{EngineView, core_of, queue_at, span_of, state_of}
use Rattle.run_log.specs.Moments.{remembered}

-- So have those among the first nodes, and nothing else has changed.
pub record HaveForgotten (old new : EngineView) (count : ℕ) : Type 0 where
  pub is_core : core_of new ≡ core_of old
  pub is_span : span_of new ≡ span_of old
  pub queues : (n : ℕ) → queue_at new n ≡ queue_at old n
  pub rest : record (state_of new) { taken = (state_of old).taken } ≡ state_of old
  pub long : length (state_of new).taken ≡ length (state_of old).taken
  pub early : (n : ℕ) → n < count → (part_of (state_of new) n).taken ≡ remembered (slice_get (core_of old).nodes n) (part_of (state_of old) n).taken
  pub late : (n : ℕ) → count ≤ n → (part_of (state_of new) n).taken ≡ (part_of (state_of old) n).taken

-- An output stream has forgotten what it took, and nothing else has changed.
pub record ForgetsNode (core : Core) (node : ℕ) (before after : State) : Type 0 where
  pub output : IsOutputStream core node → after ≡ record before { taken = slice_set before.taken node [] }
  pub other : (IsOutputStream core node → ⊥) → after ≡ before
