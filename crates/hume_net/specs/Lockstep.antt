-- Supersteps: all nodes execute at once, from one state, and then all assert at once.
use Rattle.std.specs.Prelude.{ℕ, zero, suc, ◌+◌, ◌/◌, ◌%◌, ◌==◌, List, if◌then◌else◌}
use Rattle.hume_base.specs.declared.types.Value.{Value}
use Rattle.hume_model.specs.declared.core_tree.Core.{Core}
use Rattle.hume_net.specs.declared.state.Part.{Part}
use Rattle.hume_net.specs.declared.state.State.{State}
use Rattle.hume_net.specs.Sides.{each_node, executed, stepped, gathered, consumed, produced, part_of, on_wire}

-- after the execute phase: each node has its part as its execute step makes it, and each wire is as its consumer leaves it
abbrev pub mid : Core → State → State
mid core state = let halves = each_node core (executed core state) in gathered halves (consumed core halves)

-- after the super phase: each node has its part as its super step makes it, and each wire is as its producer leaves it
abbrev pub up : Core → State → State
up core state = let halves = each_node core (stepped core state) in gathered halves (produced core halves)

-- all nodes make their execute steps, and then all make their super steps
unfoldable pub superstep : Core → State → State
superstep core state = up core (mid core state)

-- after so many supersteps
unfoldable pub lockstep : Core → State → ℕ → State
lockstep core state zero = state
lockstep core state (suc k) = superstep core (lockstep core state k)

-- the state at a time: before the execute phase of superstep k at 2 * k, and before its super phase at 2 * k + 1
abbrev pub at_time : Core → State → ℕ → State
at_time core state time = if time % 2 == 0 then lockstep core state (time / 2) else mid core (lockstep core state (time / 2))

-- a node's part, and a wire's values, at a time
abbrev pub node_at : Core → State → ℕ → ℕ → Part
node_at core state node time = part_of (at_time core state time) node

abbrev pub wire_at : Core → State → ℕ → ℕ → List Value
wire_at core state wire time = on_wire (at_time core state time) wire

-- how many execute steps and how many super steps a node at a time has made
abbrev pub executes : ℕ → ℕ
executes time = (time + 1) / 2

abbrev pub supers : ℕ → ℕ
supers time = time / 2
