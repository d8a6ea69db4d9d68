-- What streams do between two states of a net.
use Rattle.std.specs.Prelude.{◌≡◌, ℕ, ◌-◌, List, take, drop, length}
use Rattle.hume_base.specs.declared.types.Value.{Value}
use Rattle.hume_net.specs.declared.state.State.{State}
use Rattle.hume_net.specs.Sides.{part_of}

-- what an output stream gains: the values that it has taken in the later state beyond those of the earlier one
abbrev pub gained : State → State → ℕ → List Value
gained before after node = drop (length (part_of before node).taken) (part_of after node).taken

-- what an input stream asserts: the values that were to come in the earlier state and are no longer to come in the later one
abbrev pub asserted_between : State → State → ℕ → List Value
asserted_between before after node = take (length (part_of before node).coming - length (part_of after node).coming) (part_of before node).coming

-- the two states differ only in what comes to the nodes after so many values
pub record AlikeUpTo (count : ℕ) (s t : State) : Type 0 where
  pub wires : t.wires ≡ s.wires
  pub pending : t.pending ≡ s.pending
  pub orders : t.orders ≡ s.orders
  pub taken : t.taken ≡ s.taken
  pub coming : (node : ℕ) → take count (part_of t node).coming ≡ take count (part_of s node).coming
