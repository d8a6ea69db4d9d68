-- Which boxes may take more than is allowed. Each fact is about the number of a box's declaration.
use Rattle.std.specs.Prelude.{◌≡◌, ◌⊎◌, ℕ, ◌+◌, ◌<◌, ◌≤◌, map, sum, take, Some, slice_get}
use Rattle.hume_base.specs.declared.finding.Finding.{Finding}
use Rattle.hume_base.specs.declared.limits.TheConstants.{MAX_HEAP_WORDS, MAX_STACK_WORDS, MAX_SPACE_WORDS, MAX_WORK}
use Rattle.hume_base.specs.declared.rule.Rule.TheVariants.{C75, C76, C78, C79}
use Rattle.hume_base.specs.Least.{OfRule}
use Rattle.hume_model.specs.declared.core_tree.NodeC.{NodeC}
use Rattle.hume_model.specs.declared.core_tree.NodeC.TheVariants.{Rules, From, To}
use Rattle.hume_model.specs.declared.core_tree.Core.{Core}
use Rattle.hume_model.specs.Declarations.{declaration_of}
use Rattle.box_costs.specs.declared.cost.Cost.{Cost}
use Rattle.box_costs.specs.Costs.{nothing}
use Rattle.box_costs.specs.Bounds.{box_bound}

-- the bound of a box; a stream takes nothing
abbrev pub node_bound : Core → NodeC → Cost
node_bound core (Rules b) = box_bound core b
node_bound core (From stream) = nothing
node_bound core (To stream) = nothing

-- words of heap and stack
abbrev pub space_of : Cost → ℕ
space_of cost = cost.heap + cost.stack

-- the words of heap and stack of the first so many nodes together
abbrev pub space_before : Core → ℕ → ℕ
space_before core count = sum (map (λ node. space_of (node_bound core node)) (take count core.nodes))

-- the node of the number takes more heap than a box may
abbrev pub HeapPasses : Core → ℕ → NodeC → Type 0
HeapPasses core n node = MAX_HEAP_WORDS < (node_bound core node).heap

-- more stack
abbrev pub StackPasses : Core → ℕ → NodeC → Type 0
StackPasses core n node = MAX_STACK_WORDS < (node_bound core node).stack

-- more instructions
abbrev pub WorkPasses : Core → ℕ → NodeC → Type 0
WorkPasses core n node = MAX_WORK < (node_bound core node).work

-- with the node of the number the sum of heap and stack passes what all may take together
pub record SpacePasses (core : Core) (n : ℕ) (node : NodeC) : Type 0 where
  pub before : space_before core n ≤ MAX_SPACE_WORDS
  pub through : MAX_SPACE_WORDS < space_before core n + space_of (node_bound core node)

-- the declaration is that of a node with the property
pub record OfNode (core : Core) (P : Core → ℕ → NodeC → Type 0) (declaration : ℕ) : Type 0 where
  pub n : ℕ
  pub node : NodeC
  pub there : slice_get core.nodes n ≡ Some node
  pub declared : declaration_of node ≡ declaration
  pub holds : P core n node

-- what the bounds of a core break
abbrev pub BreaksCosts : Core → Finding → Type 0
BreaksCosts core finding =
    OfRule C75 (OfNode core HeapPasses) finding
    ⊎ (OfRule C76 (OfNode core StackPasses) finding
    ⊎ (OfRule C78 (OfNode core SpacePasses) finding
    ⊎ OfRule C79 (OfNode core WorkPasses) finding))
