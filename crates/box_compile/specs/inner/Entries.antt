-- Where functions begin, and how they stand in a code.
use Rattle.std.specs.Prelude.{◌≡◌, ℕ, List, ◌++◌, length, Option, Some, slice_get}
use Rattle.std.specs.Option.{option_and_then}
use Rattle.hume_model.specs.declared.core_tree.EqC.{EqC}
use Rattle.hume_model.specs.declared.core_tree.FunC.{FunC}
use Rattle.box_code.specs.Represents.{EquationsStand}

-- the place of a function, if it stands in the code
abbrev pub entry_in : List (Option ℕ) → ℕ → Option ℕ
entry_in entries number = option_and_then (λ place. place) (slice_get entries number)

-- equations that have been written, whatever others follow them
pub record EquationsBegin (code : List ℕ) (entry : ℕ → Option ℕ) (count from to : ℕ) (equations : List EqC) : Type 0 where
  pub followed : (others : List EqC) → EquationsStand code entry count to others → EquationsStand code entry count from (equations ++ others)

-- where the function has a place, it stands there
pub record FunctionStands (code : List ℕ) (entry : ℕ → Option ℕ) (at : Option ℕ) (function : FunC) : Type 0 where
  pub stands : (place : ℕ) → at ≡ Some place → EquationsStand code entry (length function.params) place function.equations
