-- The parts of a cost that have limits of their own.
use Rattle.std.specs.Prelude.{ℕ, nat_lt, Bool}
use Rattle.hume_base.specs.declared.limits.TheConstants.{MAX_HEAP_WORDS, MAX_STACK_WORDS, MAX_WORK}
use Rattle.hume_base.specs.declared.rule.Rule.{Rule}
use Rattle.hume_base.specs.declared.rule.Rule.TheVariants.{C75, C76, C79}
use Rattle.hume_model.specs.declared.core_tree.NodeC.{NodeC}
use Rattle.hume_model.specs.declared.core_tree.Core.{Core}
use Rattle.box_costs.specs.declared.cost.Cost.{Cost}
use Rattle.box_costs.specs.CostRules.{HeapPasses, StackPasses, WorkPasses}
use Rattle.space_costs.specs.declared.findings.Part.{Part}
use Rattle.space_costs.specs.declared.findings.Part.TheVariants.{Heap, Stack, Work}

-- the rule that the limit of the part is
abbrev pub rule_of : Part → Rule
rule_of Heap = C75
rule_of Stack = C76
rule_of Work = C79

-- the part of the node's bound passes its limit
abbrev pub PartPasses : Part → Core → ℕ → NodeC → Type 0
PartPasses Heap = HeapPasses
PartPasses Stack = StackPasses
PartPasses Work = WorkPasses

-- the same of a cost
abbrev pub past_limit : Part → Cost → Bool
past_limit Heap cost = nat_lt MAX_HEAP_WORDS cost.heap
past_limit Stack cost = nat_lt MAX_STACK_WORDS cost.stack
past_limit Work cost = nat_lt MAX_WORK cost.work
