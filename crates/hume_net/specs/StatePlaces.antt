-- What belongs to whom in a state.
use Rattle.std.specs.Prelude.{◌≡◌, ◌==◌, ◌<◌, ℕ, nat_lt, true, List, length, Option, Some, slice_get, count_by}
use Rattle.std.specs.List.{list_all}
use Rattle.hume_base.specs.declared.types.Value.{Value}
use Rattle.hume_model.specs.declared.core_tree.BoxC.{BoxC}
use Rattle.hume_model.specs.declared.core_tree.NodeC.TheVariants.{Rules}
use Rattle.hume_model.specs.declared.core_tree.Core.{Core}
use Rattle.hume_model.specs.Handling.{HandlesAll}
use Rattle.hume_net.specs.declared.state.State.{State}
use Rattle.hume_net.specs.Parts.{IsStateOf}
use Rattle.hume_net.specs.Sides.{part_of}

-- an order of so many numbers: each in it is below the count, and each below the count stands in it exactly once
pub record IsOrder (count : ℕ) (order : List ℕ) : Type 0 where
  pub below : list_all (λ number. nat_lt number count) order ≡ true
  pub once : (number : ℕ) → number < count → count_by (λ other. other == number) order ≡ 1

-- each wire and each node has its place in the state, and a box has an order of its rules
pub record HasPlaces (core : Core) (state : State) : Type 0 where
  pub places : IsStateOf core state
  pub rules : (n : ℕ) (b : BoxC) → slice_get core.nodes n ≡ Some (Rules b) → IsOrder (length b.rules) (part_of state n).order

-- a box's pending outputs have a value, or none, for each of its outputs
abbrev pub HaveAllOutputs : Core → State → Type 0
HaveAllOutputs core state = (n : ℕ) (b : BoxC) (outs : List (Option Value)) → slice_get core.nodes n ≡ Some (Rules b)
    → (part_of state n).pending ≡ Some outs → length outs ≡ length b.outs

-- each box handles what its rules raise
abbrev pub BoxesHandleAll : Core → Type 0
BoxesHandleAll core = (n : ℕ) (b : BoxC) → slice_get core.nodes n ≡ Some (Rules b) → HandlesAll core b
