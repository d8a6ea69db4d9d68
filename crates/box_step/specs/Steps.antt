-- What a box does in its execute step, beside what it leaves: what that takes, and which exception is handled.
use Rattle.std.specs.Prelude.{List, map, Option, None, if◌then◌else◌, slice_get}
use Rattle.std.specs.Option.{is_some, option_map, option_and_then}
use Rattle.hume_base.specs.declared.types.Value.{Value}
use Rattle.hume_model.specs.declared.core_tree.RuleC.{RuleC}
use Rattle.hume_model.specs.declared.core_tree.BoxC.{BoxC}
use Rattle.hume_model.specs.declared.core_tree.Core.{Core}
use Rattle.hume_net.specs.declared.state.Part.{Part}
use Rattle.hume_net.specs.HalfSteps.{oldest}
use Rattle.box_costs.specs.declared.cost.Cost.{Cost}
use Rattle.box_costs.specs.Costs.{nothing}
use Rattle.box_costs.specs.ResultSpending.{box_spent}
use Rattle.box_machine.specs.declared.ran.Ran.{Ran}
use Rattle.box_machine.specs.Running.{answer_of}
use Rattle.code_laws.specs.RuleEnding.{exception_of}
use Rattle.match_rules.specs.Choosing.{first_fitting}
use Rattle.box_step.specs.runs.Runs.{result_with}

-- a box with pending outputs takes nothing, and neither does one of which no rule fits
abbrev pub execute_spent : Core → BoxC → Part → List (List Value) → Cost
execute_spent core b part wires = if is_some part.pending then nothing else box_spent core b part.order (map oldest wires)

-- how the rule's outputs come: from its result, or from the handler of an exception
abbrev pub rule_answer : Core → List (Option Value) → RuleC → Ran
rule_answer core ins rule = answer_of (exception_of (result_with core rule ins))

-- none where the box doesn't fire
abbrev pub execute_answer : Core → BoxC → Part → List (List Value) → Option Ran
execute_answer core b part wires =
    if is_some part.pending then None
    else option_map (rule_answer core (map oldest wires)) (option_and_then (slice_get b.rules) (first_fitting b part.order (map oldest wires)))
