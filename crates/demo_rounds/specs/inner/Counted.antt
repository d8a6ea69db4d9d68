-- Where a demo stands after some of its rounds.
use Rattle.std.specs.Prelude.{◌≡◌, ◌≤◌, ◌*◌, ◌^◌, ℕ, List, [], length, slice_index_or, slice_set}
use Rattle.hume_base.specs.declared.types.Value.{Value}
use Rattle.hume_model.specs.declared.core_tree.Core.{Core}
use Rattle.hume_net.specs.declared.state.State.{State}
use Rattle.hume_net.specs.Lockstep.{lockstep}
use Rattle.hume_net.specs.Nodes.{IsOutputStream}
use Rattle.hume_net.specs.Parts.{IsStateOf}
use Rattle.hume_net.specs.Start.{start, no_values}
use Rattle.hume_net.specs.rounds.Pieces.{IsPieceOf, nothing, taken_in}
use Rattle.hume_net.specs.rounds.Rounds.{made}
use Rattle.stream_totals.specs.declared.total.Total.{Total}
use Rattle.stream_totals.specs.Totals.{total_of, total_of_words}
use Rattle.phase_workers.specs.Engines.{EngineView as Engine}
use Rattle.phase_workers.specs.Engines.{core_of, span_of, state_of}
use Rattle.phase_workers.specs.StreamTypes.{type_at}
use Rattle.demo_rounds.specs.declared.counting.TheConstants.{SPAN}

-- the total of a node
abbrev pub total_at : List Total → ℕ → Total
total_at totals n = slice_index_or totals n (total_of_words [])

-- There is a total for each node. Those of output streams are of these values, of which each has at most so many.
pub record AreTotals (core : Core) (values : ℕ → List Value) (most : ℕ) (totals : List Total) : Type 0 where
  pub count : length totals ≡ length core.nodes
  pub each : (n : ℕ) → IsOutputStream core n → total_at totals n ≡ total_of core.types (type_at core n) (values n)
  pub few : (n : ℕ) → IsOutputStream core n → length (values n) ≤ most

-- An output stream has forgotten what it has taken, and nothing else has changed.
pub record ClearsNode (core : Core) (node : ℕ) (before after : State) : Type 0 where
  pub output : IsOutputStream core node → after ≡ record before { taken = slice_set before.taken node [] }
  pub other : (IsOutputStream core node → ⊥) → after ≡ before

-- All output streams have: a piece of a whole state is one still, of which more was taken earlier.
pub record Clears (core : Core) (before after : State) : Type 0 where
  pub parts : IsStateOf core after
  pub pieces : (earlier later : ℕ → List Value) (whole : State) → IsPieceOf core earlier later before whole
      → (gone : ℕ → List Value) × IsPieceOf core gone later after whole
  pub none : (n : ℕ) → IsOutputStream core n → taken_in after n ≡ []

-- After so many rounds the engine's state is that of the whole run, but for the values that output streams have taken, and those are
-- counted.
pub record Counted (core : Core) (steps done : ℕ) (totals : List Total) (engine : Engine) : Type 0 where
  pub is_core : core_of engine ≡ core
  pub is_span : span_of engine ≡ SPAN
  pub parts : IsStateOf core (state_of engine)
  pub cleared : (n : ℕ) → IsOutputStream core n → taken_in (state_of engine) n ≡ []
  pub earlier : ℕ → List Value
  pub piece : IsPieceOf core earlier nothing (state_of engine) (lockstep core (start core (no_values core)) (made SPAN steps done))
  pub counted : AreTotals core earlier (done * 2 ^ 32) totals
