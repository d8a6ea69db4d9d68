-- What put back and pass ask of a seat: so that no half step is shown before it is made.
use Rattle.std.specs.Prelude.{◌≡◌, ℕ, true, false, ◌+◌, ◌-◌, ◌<◌, ◌≤◌}
use mathlib.Core.Option.{some}
use Rattle.hume_net.specs.declared.plan.Plan.{Plan}
use Rattle.hume_net.specs.Plan.{wires_of}
use Rattle.hume_net.specs.Times.{mover, IsOfSide}
use Rattle.turn_locker.specs.declared.view.View.{View}
use Rattle.turn_locker.specs.Held.{held_at, has_pair}

-- The seat may put the item back: it holds the item at this time, has passed no wire for it, and no node for which it has passed a
-- wire still has to pass this one.
pub record MayPutBack (plan : Plan) (item time : ℕ) (v : View) : Type 0 where
  pub is_held : held_at item v.held ≡ some time
  pub no_node : (w : ℕ) → has_pair item w v.passed ≡ false
  pub no_wire : (node other t w : ℕ) → has_pair node other v.passed ≡ true → held_at node v.held ≡ some t → IsOfSide plan t node w
      → has_pair node w v.passed ≡ false → item ≡ plan.nodes + w → ⊥

-- The seat may pass the wire: it holds the wire and the node that moves it at this time, and each other wire of that node's side is
-- held at this time or has been passed for the node.
pub record MayPassWire (plan : Plan) (wire time : ℕ) (v : View) : Type 0 where
  pub is_wire : wire < wires_of plan
  pub wire_held : held_at (plan.nodes + wire) v.held ≡ some time
  pub node_held : held_at (mover plan time wire) v.held ≡ some time
  pub others_held : (w : ℕ) → IsOfSide plan time (mover plan time wire) w → has_pair (mover plan time wire) w v.passed ≡ false
      → held_at (plan.nodes + w) v.held ≡ some time

-- The seat may pass the node: it holds the node at this time, and has passed all wires of the node's side for it.
pub record MayPassNode (plan : Plan) (node time : ℕ) (v : View) : Type 0 where
  pub node_held : held_at node v.held ≡ some time
  pub all_passed : (w : ℕ) → IsOfSide plan time node w → has_pair node w v.passed ≡ true

-- the seat may pass the item, a node or a wire, which it holds at this time
pub record MayPass (plan : Plan) (item time : ℕ) (v : View) : Type 0 where
  pub a_node : item < plan.nodes → MayPassNode plan item time v
  pub a_wire : plan.nodes ≤ item → MayPassWire plan (item - plan.nodes) time v
