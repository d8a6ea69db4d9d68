-- The values of a locker that is closed.
use Rattle.std.specs.Prelude.{◌≡◌, ℕ, ◌+◌, ◌<◌, List, length, slice_get, Some}
use Rattle.hume_net.specs.declared.plan.Plan.{Plan}
use Rattle.hume_net.specs.Plan.{wires_of}
use Rattle.hume_net.specs.Times.{AreBalanced, wire_time}
use Rattle.turn_locker.specs.Held.{items_of}

-- The values are those of the plan's items in order, each right and at its time. The times of the nodes are balanced, and each wire has
-- the time that they give it.
pub record AreHome {T : Type 0} (number_of time_of : T → ℕ) (right : T → Type 0) (plan : Plan) (values : List T) : Type 0 where
  pub clock : ℕ → ℕ
  pub count : length values ≡ items_of plan
  pub each_item : (item : ℕ) → item < items_of plan
      → (value : T) × (slice_get values item ≡ Some value) × (number_of value ≡ item) × (time_of value ≡ clock item) × right value
  pub balanced : AreBalanced plan clock
  pub wires : (w : ℕ) → w < wires_of plan → clock (plan.nodes + w) ≡ wire_time plan clock w
