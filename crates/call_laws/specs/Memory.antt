-- Heap and stack of a box in a run, and the machine that runs a rule on them.
use Rattle.std.specs.Prelude.{◌≡◌, ◌⊎◌, ◌≤◌, ℕ, List, [], length, map, None, Some, Option, slice_get}
use Rattle.hume_base.specs.declared.types.Value.{Value}
use Rattle.hume_model.specs.declared.core_tree.BoxC.{BoxC}
use Rattle.hume_model.specs.declared.core_tree.Core.{Core}
use Rattle.hume_model.specs.declared.core_tree.NodeC.TheVariants.{Rules}
use Rattle.hume_model.specs.declared.core_tree.RuleC.{RuleC}
use Rattle.hume_net.specs.declared.state.State.{State}
use Rattle.hume_net.specs.HalfSteps.{oldest}
use Rattle.hume_net.specs.Lockstep.{lockstep}
use Rattle.hume_net.specs.Sides.{inputs, part_of}
use Rattle.hume_net.specs.Start.{start}
use Rattle.hume_streams.specs.Logs.{LogView}
use Rattle.hume_streams.specs.Queues.{QueueView}
use Rattle.model_bare.specs.Bare.{bare_of}
use Rattle.box_costs.specs.declared.cost.Cost.{Cost}
use Rattle.box_costs.specs.Bounds.{box_bound}
use Rattle.box_costs.specs.Costs.{IsAtMost}
use Rattle.box_costs.specs.ResultSpending.{built_values}
use Rattle.net_costs.specs.Steps.{peaks}
use Rattle.box_heap.specs.Heaps.{HeapView}
use Rattle.box_heap.specs.Stacks.{StackView}
use Rattle.box_code.specs.Machine.{Ends, Goes, Machine, Setting, run, used}
use Rattle.match_rules.specs.Choosing.{first_fitting}
use Rattle.match_rules.specs.Inputs.{AreBuilt}
use Rattle.box_step.specs.Views.{CompiledView}
use Rattle.box_step.specs.nodes.Openings.{IsOpeningOf, Opening}

-- It is an opening of its core, before which no box took more than its bound.
pub record OpensWithin (opening : Opening) : Type 0 where
  pub opens : IsOpeningOf (bare_of opening.core) opening
  pub peaks : (n : ℕ) (b : BoxC) → slice_get opening.core.nodes n ≡ Some (Rules b) → IsAtMost (opening.peaks n) (box_bound opening.core b)

-- what a round opens with after so many supersteps of a run to which these values come, whatever its queues and logs keep
abbrev pub run_opening : Core → List (List Value) → ℕ → (ℕ → QueueView) → (ℕ → LogView) → Opening
run_opening core coming steps queues logs = record {
  core = core;
  state = lockstep core (start core coming) steps;
  peaks = λ n. peaks core (start core coming) steps n;
  queues = queues;
  logs = logs;
}

-- Heap and stack of the box have exactly the lengths of the bound, and there never were more words in them.
pub record HasItsMemory (bound : Cost) (box : CompiledView) : Type 0 where
  pub heap_room : box.heap.room ≡ bound.heap
  pub stack_room : box.stack.room ≡ bound.stack
  pub heap_within : box.heap.peak ≤ box.heap.room
  pub stack_within : box.stack.peak ≤ box.stack.room

-- what a box sees at its inputs
abbrev pub seen : Core → State → ℕ → BoxC → List (Option Value)
seen core state n b = map oldest (inputs core state n (Rules b))

-- The box of the number fires this rule from the state, and what the rule looks into is built in the emptied heap and on the emptied
-- stack of its cell.
pub record IsBuiltFor (core : Core) (state : State) (n : ℕ) (b : BoxC) (number : ℕ) (box : CompiledView) (heap : HeapView) (stack : StackView)
    : Type 0 where
  pub there : slice_get core.nodes n ≡ Some (Rules b)
  pub unblocked : (part_of state n).pending ≡ None
  pub found : first_fitting b (part_of state n).order (seen core state n b) ≡ Some number
  pub rule : RuleC
  pub is : slice_get b.rules number ≡ Some rule
  pub built : AreBuilt (built_values rule.pats (seen core state n b)) (record box.heap { words = [] }) heap (record box.stack { words = [] }) stack

-- The machine is where so many instructions lead.
abbrev pub IsReached : Setting → Machine → ℕ → Machine → Type 0
IsReached s first count m = (run s count first ≡ Goes m) ⊎ (run s count first ≡ Ends m)

-- Objects and stack of the machine have no more words than heap and stack of the box have room for.
pub record IsInRoom (box : CompiledView) (m : Machine) : Type 0 where
  pub heap : used m.objects ≤ box.heap.room
  pub stack : length m.stack ≤ box.stack.room
