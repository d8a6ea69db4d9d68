-- What is written after a round, and what the engine's peaks are then.
use Rattle.std.specs.Prelude.{◌≡◌, ℕ, ◌++◌, max, Bool, true, false, []}
use Rattle.hume_model.specs.declared.core_tree.Core.{Core}
use Rattle.hume_net.specs.declared.state.State.{State}
use Rattle.hume_net.specs.Sides.{on_wire, part_of}
use Rattle.hume_ports.specs.Delivery.{Pairs}
use Rattle.net_costs.specs.Steps.{peaks}
use Rattle.phase_workers.specs.Engines.{EngineView as Engine}
use Rattle.phase_workers.specs.Engines.{core_of, state_of, heap_peak_at, stack_peak_at}
use Rattle.run_rounds.specs.Writes.{told, superstep_lines, writes_of_nodes}

-- the superstep and the wires of a state, if they are told
abbrev pub wires_now : Core → Bool → ℕ → State → Pairs
wires_now core true round state = told (superstep_lines core round (on_wire state))
wires_now core false round state = []

-- what is written of the state at the end of a round
abbrev pub told_now : Core → Bool → ℕ → State → Pairs
told_now core traced round state = writes_of_nodes core (λ n. (part_of state n).taken) ++ wires_now core traced round state

-- The peaks are the greater of what they were and of what these supersteps take.
pub record PeaksGrow (old : Engine) (supersteps : ℕ) (new : Engine) : Type 0 where
  pub heap : (n : ℕ) → heap_peak_at new n ≡ max (heap_peak_at old n) (peaks (core_of old) (state_of old) supersteps n).heap
  pub stack : (n : ℕ) → stack_peak_at new n ≡ max (stack_peak_at old n) (peaks (core_of old) (state_of old) supersteps n).stack
