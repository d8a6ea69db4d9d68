-- How a machine ends: with which outputs, and at which cost.
use Rattle.std.specs.Prelude.{◌≡◌, ℕ, ◌+◌, max, List, [], ◌∷◌, ◌++◌, Option}
use Rattle.std.specs.Option.{option_map}
use Rattle.hume_base.specs.declared.types.Ty.{Ty}
use Rattle.hume_base.specs.declared.types.Types.{Types}
use Rattle.hume_base.specs.declared.types.Value.{Value}
use Rattle.hume_base.specs.Flat.{flat}
use Rattle.hume_model.specs.declared.outcome.Outputs.{Outputs}
use Rattle.hume_model.specs.declared.outcome.Outputs.TheVariants.{Asserts, Throws}
use Rattle.box_costs.specs.declared.cost.Cost.{Cost}
use Rattle.box_costs.specs.Spending.{Spent}
use Rattle.box_heap.specs.Heaps.{Object}
use Rattle.box_code.specs.Machine.{Setting, Machine, EndsAfter, used}
use Rattle.code_laws.specs.Running.{Threw}

-- the flat words of outputs, by their types
abbrev pub flat_outputs : Types → List Ty → List (Option Value) → List (Option (List ℕ))
flat_outputs types [] outs = []
flat_outputs types (ty ∷ tys) [] = []
flat_outputs types (ty ∷ tys) (out ∷ outs) = option_map (flat types ty) out ∷ flat_outputs types tys outs

-- The machine ends with the outputs. So much was spent: on a stack that was so high, in new objects, and by exactly so many
-- instructions.
pub record Finished (s : Setting) (m : Machine) (high : ℕ) (outs : List (Option Value)) (cost : Cost) : Type 0 where
  pub end : Machine
  pub more : List Object
  pub size : used more ≡ cost.heap
  pub comes : EndsAfter s m end cost.work
  pub gives : end.outs ≡ flat_outputs s.types s.outs outs
  pub objects : end.objects ≡ m.objects ++ more
  pub peak : end.peak ≡ max m.peak (high + cost.stack)
  pub raised : end.raised ≡ m.raised

-- the machine ends with the outputs, or is at the handler of the exception that is raised
abbrev pub ResultRuns : Setting → Machine → ℕ → Outputs → Cost → Type 0
ResultRuns s m high (Asserts outs) cost = Finished s m high outs cost
ResultRuns s m high (Throws exn carried) cost = Threw s m high exn carried cost

abbrev pub ResultRunsSpent : Setting → Machine → ℕ → Spent Outputs → Type 0
ResultRunsSpent s m high spent = ResultRuns s m high spent.outcome spent.cost
