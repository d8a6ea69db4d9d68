-- What the nodes of a net take in their execute steps.
use Rattle.std.specs.Prelude.{ℕ, Bool, List, map, Option, None, Some, if◌then◌else◌, slice_get}
use Rattle.std.specs.List.{range_with_len}
use Rattle.std.specs.Option.{is_some}
use Rattle.hume_model.specs.declared.core_tree.BoxC.{BoxC}
use Rattle.hume_model.specs.declared.core_tree.NodeC.{NodeC}
use Rattle.hume_model.specs.declared.core_tree.NodeC.TheVariants.{Rules, From, To}
use Rattle.hume_model.specs.declared.core_tree.Core.{Core}
use Rattle.hume_net.specs.declared.state.State.{State}
use Rattle.hume_net.specs.HalfSteps.{oldest}
use Rattle.hume_net.specs.Lockstep.{lockstep}
use Rattle.hume_net.specs.Sides.{inputs, part_of}
use Rattle.box_costs.specs.declared.cost.Cost.{Cost}
use Rattle.box_costs.specs.Costs.{any_of, nothing}
use Rattle.box_costs.specs.ResultSpending.{box_spent}

-- a box with pending outputs takes nothing, and neither does one of which no rule fits
abbrev pub box_step_spent : Core → State → ℕ → BoxC → Cost
box_step_spent core state n b =
    if is_some (part_of state n).pending then nothing else box_spent core b (part_of state n).order (map oldest (inputs core state n (Rules b)))

-- neither does a stream
abbrev pub node_step_spent : Core → State → ℕ → Option NodeC → Cost
node_step_spent core state n None = nothing
node_step_spent core state n (Some (Rules b)) = box_step_spent core state n b
node_step_spent core state n (Some (From stream)) = nothing
node_step_spent core state n (Some (To stream)) = nothing

-- what the node of the number takes in its execute step from a state
abbrev pub step_spent : Core → State → ℕ → Cost
step_spent core state n = node_step_spent core state n (slice_get core.nodes n)

-- the most that it takes in one of so many supersteps from a state, each of heap, stack and work by itself
abbrev pub peaks : Core → State → ℕ → ℕ → Cost
peaks core state steps n = any_of (map (λ k. step_spent core (lockstep core state k) n) (range_with_len 0 steps))
