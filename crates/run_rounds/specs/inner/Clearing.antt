-- What writing what output streams have taken leaves of a net's state.
use Rattle.std.specs.Prelude.{◌≡◌, ℕ, List, [], slice_set}
use Rattle.hume_base.specs.declared.types.Value.{Value}
use Rattle.hume_model.specs.declared.core_tree.Core.{Core}
use Rattle.hume_net.specs.declared.state.State.{State}
use Rattle.hume_net.specs.Nodes.{IsOutputStream}
use Rattle.hume_net.specs.Parts.{IsStateOf}
use Rattle.hume_net.specs.Sides.{part_of}
use Rattle.hume_net.specs.rounds.Pieces.{IsPieceOf}

-- A piece of a whole state is one still, of which more was taken earlier; output streams have taken nothing, and other nodes
-- what they had.
pub record Clears (core : Core) (before after : State) : Type 0 where
  pub parts : IsStateOf core after
  pub pieces : (earlier later : ℕ → List Value) (whole : State) → IsPieceOf core earlier later before whole
      → (gone : ℕ → List Value) × IsPieceOf core gone later after whole
  pub none : (n : ℕ) → IsOutputStream core n → (part_of after n).taken ≡ []
  pub others : (n : ℕ) → (IsOutputStream core n → ⊥) → (part_of after n).taken ≡ (part_of before n).taken

-- An output stream has forgotten what it has taken, and nothing else has changed.
pub record ClearsNode (core : Core) (node : ℕ) (before after : State) : Type 0 where
  pub output : IsOutputStream core node → after ≡ record before { taken = slice_set before.taken node [] }
  pub other : (IsOutputStream core node → ⊥) → after ≡ before
