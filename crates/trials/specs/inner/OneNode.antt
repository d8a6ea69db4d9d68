-- A plan of one node whose wire leads to itself, and what a seat holds of it.
use Rattle.std.specs.Prelude.{◌≡◌, [], ◌∷◌}
use Rattle.hume_net.specs.declared.plan.Plan.{Plan}
use Rattle.turn_locker.specs.declared.view.View.{View}

-- one node, and a wire from it to itself
abbrev pub one_node : Plan
one_node = record { nodes = 1; producer = 0 ∷ []; consumer = 0 ∷ [] }

-- the seat holds the node and its wire at time 0, and has passed nothing
abbrev pub AreClaimed : View → Type 0
AreClaimed v = (v.held ≡ (1, 0) ∷ (0, 0) ∷ []) × (v.passed ≡ [])
