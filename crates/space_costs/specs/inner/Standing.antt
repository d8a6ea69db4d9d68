-- Costs as they are counted: each part stands at one past its limit once it passes that.
use Rattle.std.specs.Prelude.{◌≡◌, ⊤, ℕ, ◌+◌, ◌<◌, min, All, List, [], ◌∷◌, length, Option, Some, None, slice_get}
use Rattle.hume_base.specs.declared.limits.TheConstants.{MAX_EXCEPTIONS, MAX_SPACE_WORDS, MAX_WORK}
use Rattle.hume_base.specs.declared.types.Types.{Types}
use Rattle.hume_model.specs.declared.core_tree.HandC.{HandC}
use Rattle.hume_model.specs.declared.core_tree.NodeC.{NodeC}
use Rattle.hume_model.specs.declared.core_tree.NodeC.TheVariants.{Rules, From, To}
use Rattle.hume_model.specs.declared.core_tree.Core.{Core}
use Rattle.box_costs.specs.declared.cost.Cost.{Cost}
use Rattle.box_costs.specs.Costs.{above, both, one_way}
use Rattle.box_costs.specs.Building.{named_build}
use Rattle.box_costs.specs.Bounds.{bound_below}
use Rattle.box_costs.specs.CostRules.{node_bound}

-- a number that stands at one past what all boxes may take together
abbrev pub counted : ℕ → ℕ
counted number = min number (MAX_SPACE_WORDS + 1)

-- what is counted of the cost
pub record IsCostOf (x cost : Cost) : Type 0 where
  pub heap : x.heap ≡ counted cost.heap
  pub stack : x.stack ≡ counted cost.stack
  pub work : x.work ≡ min cost.work (MAX_WORK + 1)

-- the cost of a function; one that isn't there raises at once
abbrev pub or_absent : Option Cost → Cost
or_absent None = one_way []
or_absent (Some cost) = cost

-- what is counted of the bound of each function
pub record AreCostsOf (called : List Cost) (bounds : ℕ → Cost) : Type 0 where
  pub each : (function : ℕ) → IsCostOf (or_absent (slice_get called function)) (bounds function)

abbrev pub or_zero : Option ℕ → ℕ
or_zero None = 0
or_zero (Some number) = number

-- what is counted of the words that build each data type
pub record AreBuildsOf (builds : List ℕ) (named : ℕ → ℕ) : Type 0 where
  pub each : (number : ℕ) → or_zero (slice_get builds number) ≡ counted (named number)

-- what is counted of the bounds of a core's functions, in the order of their numbers
pub record AreFunctionCosts (core : Core) (costs : List Cost) : Type 0 where
  pub counted : AreCostsOf costs (bound_below core (length core.funs))

-- the part, if it is there, and above it the others
abbrev pub with_first : Option Cost → Cost → Cost
with_first None others = others
with_first (Some part) others = both part (above 1 others)

-- what is counted of the words that build each data type of a core, in the order of their numbers
pub record AreTypeBuilds (types : Types) (builds : List ℕ) : Type 0 where
  pub named : AreBuildsOf builds (named_build types (length types.sums))

-- the handler is for an exception that a core may have
abbrev pub IsKnownHandler : HandC → Type 0
IsKnownHandler handler = handler.exn < MAX_EXCEPTIONS

-- so are the handlers of the node, if it is a box
abbrev pub HasKnownHandlers : NodeC → Type 0
HasKnownHandlers (Rules b) = All IsKnownHandler b.handlers
HasKnownHandlers (From stream) = ⊤
HasKnownHandlers (To stream) = ⊤

-- what is counted of the bound of each node
pub data AreNodeCosts (core : Core) : List NodeC → List Cost → Type 0 where
  none : AreNodeCosts core [] []
  one : {node : NodeC} {nodes : List NodeC} {x : Cost} {costs : List Cost} → IsCostOf x (node_bound core node) → AreNodeCosts core nodes costs
      → AreNodeCosts core (node ∷ nodes) (x ∷ costs)
