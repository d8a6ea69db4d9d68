-- When a rule of a compiled box is about to fire, and what its firing leaves.
use Rattle.std.specs.Prelude.{◌≡◌, ℕ, Bool, List, [], map, Some, None, slice_get}
use Rattle.hume_base.specs.declared.types.Value.{Value}
use Rattle.hume_model.specs.declared.core_tree.RuleC.{RuleC}
use Rattle.hume_model.specs.declared.core_tree.BoxC.{BoxC}
use Rattle.hume_model.specs.declared.core_tree.Core.{Core}
use Rattle.hume_net.specs.declared.state.HalfStep.{HalfStep}
use Rattle.hume_net.specs.HalfSteps.{execute, oldest}
use Rattle.hume_model.specs.declared.core_tree.NodeC.TheVariants.{Rules}
use Rattle.model_bare.specs.Bare.{bare_of, bare_rule}
use Rattle.box_heap.specs.Heaps.{HeapView}
use Rattle.box_heap.specs.Stacks.{StackView}
use Rattle.box_machine.specs.declared.ran.Ran.{Ran}
use Rattle.match_rules.specs.Inputs.{AreBuilt}
use Rattle.wire_cells.specs.Cells.{CellView}
use Rattle.box_step.specs.Views.{CompiledView}
use Rattle.box_step.specs.Boxes.{IsSoundBox, IsAt, HasSpent}
use Rattle.match_rules.specs.Choosing.{first_fitting}
use Rattle.box_step.specs.Steps.{execute_spent, rule_answer}

-- the box isn't blocked, and the rule of the number is the first that fits
pub record Fires (core : Core) (b : BoxC) (before : HalfStep) (box : CompiledView) (cells : List CellView)
    (bare : Core) (fair : Bool) (number : ℕ) (bare_rule_is : RuleC) : Type 0 where
  pub sound : IsSoundBox core b
  pub core_is : bare ≡ bare_of core
  pub fair_is : fair ≡ b.fair
  pub at : IsAt core b before box cells
  pub unblocked : before.part.pending ≡ None
  pub found : first_fitting b before.part.order (map oldest before.side) ≡ Some number
  pub rule : RuleC
  pub there : slice_get b.rules number ≡ Some rule
  pub rule_is : bare_rule_is ≡ bare_rule rule

-- box and cells are as the execute step leaves them, at its cost
pub record HasFired (core : Core) (b : BoxC) (before : HalfStep) (number : ℕ) (old new : CompiledView) (cells : List CellView) (answer : Ran) : Type 0 where
  pub at : IsAt core b (execute core (Rules b) before.part before.side) new cells
  pub spent : HasSpent (execute_spent core b before.part before.side) old new
  pub answered : (rule : RuleC) → slice_get b.rules number ≡ Some rule → answer ≡ rule_answer core (map oldest before.side) rule

-- heap and stack were emptied, and the values are built there
abbrev pub AreBuiltAnew : List Value → HeapView → HeapView → StackView → StackView → Type 0
AreBuiltAnew values heap built stack top = AreBuilt values (record heap { words = [] }) built (record stack { words = [] }) top
