-- A net that is fed before each round and cleared after it holds a piece of the state of the whole run: the values that were
-- taken earlier are gone, and those that come later are not there yet.
use Rattle.std.specs.Prelude.{◌≡◌, ◌≤◌, ◌<◌, ℕ, ◌==◌, if◌then◌else◌, zero, suc, List, [], ◌++◌, length, Some, slice_get, ◌⊎◌}
use Rattle.std.specs.Option.{unwrap_or}
use Rattle.hume_base.specs.declared.types.Value.{Value}
use Rattle.hume_model.specs.declared.core_tree.NodeC.{NodeC}
use Rattle.hume_model.specs.declared.core_tree.WireC.{WireC}
use Rattle.hume_model.specs.declared.core_tree.Core.{Core}
use Rattle.hume_net.specs.declared.state.Part.{Part}
use Rattle.hume_net.specs.declared.state.State.{State}
use Rattle.hume_net.specs.Lockstep.{lockstep}
use Rattle.hume_net.specs.Nodes.{IsInputStream}
use Rattle.hume_net.specs.Sides.{each_node, on_wire, part_of}
use Rattle.hume_net.specs.Start.{start, no_values}
use Rattle.hume_net.specs.rounds.Rounds.{length_of}

-- no values, of any node
abbrev pub nothing : ℕ → List Value
nothing node = []

-- the values of each node, in a list of the nodes' lists
abbrev pub listed : List (List Value) → ℕ → List Value
listed values node = unwrap_or (slice_get values node) []

-- the values that each node has taken
abbrev pub taken_in : State → ℕ → List Value
taken_in state node = (part_of state node).taken

-- these values of one node, and none of the others
abbrev pub only : ℕ → List Value → ℕ → List Value
only node values other = if other == node then values else []

-- the part of a node that has taken these values before, and to which those come later
abbrev pub completed : List Value → List Value → Part → Part
completed earlier later part = record part { coming = part.coming ++ later; taken = earlier ++ part.taken }

-- The whole state is the piece, but for the values that each node has taken earlier and those that come to it later.
pub record IsPieceOf (core : Core) (earlier later : ℕ → List Value) (piece whole : State) : Type 0 where
  pub wires : (w : ℕ) (wire : WireC) → slice_get core.wires w ≡ Some wire → on_wire whole w ≡ on_wire piece w
  pub parts : (n : ℕ) (node : NodeC) → slice_get core.nodes n ≡ Some node → part_of whole n ≡ completed (earlier n) (later n) (part_of piece n)

-- To each input stream as many values come as there are supersteps, or all that are left.
abbrev pub IsFilled : Core → ℕ → (ℕ → List Value) → State → Type 0
IsFilled core steps later piece = (n : ℕ) → IsInputStream core n → (later n ≡ []) ⊎ (steps ≤ length (part_of piece n).coming)

-- the state once more values come to the nodes
abbrev pub fed : Core → (ℕ → List Value) → State → State
fed core values state = record state { coming = each_node core (λ n. (part_of state n).coming ++ values n) }

-- the state once the values that were taken are forgotten
abbrev pub cleared : Core → State → State
cleared core state = record state { taken = no_values core }

-- the state in which a round ends, before it is cleared
abbrev pub round_over : Core → ℕ → (ℕ → List Value) → State → State
round_over core steps values state = lockstep core (fed core values state) steps

-- A run by rounds: each begins with the values that it feeds to each node, and when it is over the values that were taken
-- are cleared. This is the state after so many rounds.
unfoldable pub after_rounds : Core → ℕ → ℕ → (ℕ → ℕ → List Value) → ℕ → State
after_rounds core span steps feeds zero = start core (no_values core)
after_rounds core span steps feeds (suc done) =
    cleared core (round_over core (length_of span steps (suc done)) (feeds (suc done)) (after_rounds core span steps feeds done))

-- what a node has taken in the rounds so far, round by round
unfoldable pub taken_by : Core → ℕ → ℕ → (ℕ → ℕ → List Value) → ℕ → ℕ → List Value
taken_by core span steps feeds zero node = []
taken_by core span steps feeds (suc done) node =
    taken_by core span steps feeds done node
    ++ (part_of (round_over core (length_of span steps (suc done)) (feeds (suc done)) (after_rounds core span steps feeds done)) node).taken

-- Each of the first rounds is fed what it may need. `coming` has all values of each node, and `later` those that are left
-- after so many rounds.
pub record IsFedByRounds (core : Core) (span steps : ℕ) (coming : List (List Value)) (feeds later : ℕ → ℕ → List Value) (rounds : ℕ) : Type 0 where
  pub all : (n : ℕ) (node : NodeC) → slice_get core.nodes n ≡ Some node → listed coming n ≡ later 0 n
  pub parts : (done : ℕ) → done < rounds → (n : ℕ) (node : NodeC) → slice_get core.nodes n ≡ Some node → later done n ≡ feeds (suc done) n ++ later (suc done) n
  pub filled : (done : ℕ) → done < rounds
      → IsFilled core (length_of span steps (suc done)) (later (suc done)) (fed core (feeds (suc done)) (after_rounds core span steps feeds done))
