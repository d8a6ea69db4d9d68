-- The times of nodes and wires. A node's time is the number of half steps that it has made. `times` maps the number of each
-- node to its time.
use Rattle.std.specs.Prelude.{◌≡◌, ◌<◌, ◌≤◌, ◌+◌, ◌%◌, ◌==◌, ℕ, if◌then◌else◌}
use Rattle.hume_net.specs.declared.plan.Plan.{Plan}
use Rattle.hume_net.specs.Lockstep.{executes, supers}
use Rattle.hume_net.specs.Plan.{wires_of, producer_of, consumer_of}

-- before the first half step
abbrev pub beginning : ℕ → ℕ
beginning node = 0

-- after one more half step of a node
abbrev pub later : ℕ → (ℕ → ℕ) → ℕ → ℕ
later node times other = if other == node then times other + 1 else times other

-- the node whose half step at a time changes the wire: its consumer executes at even times, its producer asserts at odd ones
abbrev pub mover : Plan → ℕ → ℕ → ℕ
mover plan time wire = if time % 2 == 0 then consumer_of plan wire else producer_of plan wire

-- at this time the wire is of the node's side
abbrev pub IsOfSide : Plan → ℕ → ℕ → ℕ → Type 0
IsOfSide plan time node wire = (wire < wires_of plan) × (mover plan time wire ≡ node)

-- a wire's time: the number of half steps that have changed it
abbrev pub wire_time : Plan → (ℕ → ℕ) → ℕ → ℕ
wire_time plan times wire = executes (times (consumer_of plan wire)) + supers (times (producer_of plan wire))

-- The consumer of a wire has executed as often as the wire's producer has made super steps, or once more.
pub record IsBalanced (plan : Plan) (times : ℕ → ℕ) (wire : ℕ) : Type 0 where
  pub not_behind : supers (times (producer_of plan wire)) ≤ executes (times (consumer_of plan wire))
  pub not_ahead : executes (times (consumer_of plan wire)) ≤ supers (times (producer_of plan wire)) + 1

-- so it is on each wire
abbrev pub AreBalanced : Plan → (ℕ → ℕ) → Type 0
AreBalanced plan times = (w : ℕ) → w < wires_of plan → IsBalanced plan times w
