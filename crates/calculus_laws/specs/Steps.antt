-- What a step does to a core, and why it is refused.
use Rattle.std.specs.Prelude.{◌≡◌, ℕ, ◌<◌, length, Option, Some, None}
use Rattle.std.specs.Option.{option_and_then}
use Rattle.hume_model.specs.declared.core_tree.BoxC.{BoxC}
use Rattle.hume_model.specs.declared.core_tree.Core.{Core}
use Rattle.calculus_laws.specs.declared.step.CalcError.{CalcError}
use Rattle.calculus_laws.specs.declared.step.Step.{Step}
use Rattle.calculus_laws.specs.declared.step.Step.TheVariants.{Name, Swap, Unfold}
use Rattle.calculus_laws.specs.Boxes.{box_at, with_box}
use Rattle.calculus_laws.specs.Naming.{named_output, output_at, output_refusal}
use Rattle.calculus_laws.specs.Swapping.{swap_refusal, swapped_box}
use Rattle.calculus_laws.specs.Unfolding.{unfold_refusal, unfolded_at, unfolded_core}

-- the node that a step is about
abbrev pub node_of : Step → ℕ
node_of (Unfold node rule) = node
node_of (Swap node rule) = node
node_of (Name node rule name) = node

-- the rule that it is about
abbrev pub rule_of : Step → ℕ
rule_of (Unfold node rule) = rule
rule_of (Swap node rule) = rule
rule_of (Name node rule name) = rule

-- the step is about a rule that there is
pub record IsOnRule (core : Core) (step : Step) : Type 0 where
  pub b : BoxC
  pub there : box_at core (node_of step) ≡ Some b
  pub rule : rule_of step < length b.rules

-- what the step makes of its box in the core
abbrev pub rewritten_box : Core → Step → BoxC → Core
rewritten_box core (Unfold node rule) b = unfolded_core core node rule b (unfolded_at core b rule)
rewritten_box core (Swap node rule) b = with_box core node (swapped_box rule b)
rewritten_box core (Name node rule name) b = named_output core node rule name b (output_at b rule)

-- what the step makes of a core that has its box
abbrev pub rewritten_at : Core → Step → Option BoxC → Core
rewritten_at core step None = core
rewritten_at core step (Some b) = rewritten_box core step b

-- what the step makes of a core; nothing changes where there is no such box
abbrev pub rewritten : Core → Step → Core
rewritten core step = rewritten_at core step (box_at core (node_of step))

-- why the step on its box is refused
abbrev pub box_refusal : Core → Step → BoxC → Option CalcError
box_refusal core (Unfold node rule) b = unfold_refusal (unfolded_at core b rule)
box_refusal core (Swap node rule) b = swap_refusal b rule
box_refusal core (Name node rule name) b = output_refusal core.types core.funs name b (output_at b rule)

-- why the step is refused, if it is
abbrev pub refusal : Core → Step → Option CalcError
refusal core step = option_and_then (box_refusal core step) (box_at core (node_of step))
