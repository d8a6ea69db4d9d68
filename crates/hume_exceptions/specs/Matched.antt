-- When a value matches one of several patterns.
use Rattle.std.specs.Prelude.{Bool, List, [], ◌∷◌}
use Rattle.std.specs.List.{list_any}
use Rattle.std.specs.Option.{is_some}
use Rattle.hume_base.specs.declared.types.Ty.{Ty}
use Rattle.hume_base.specs.declared.types.Types.{Types}
use Rattle.hume_base.specs.declared.types.Value.{Value}
use Rattle.hume_model.specs.declared.core_tree.PatC.{PatC}
use Rattle.hume_model.specs.Patterns.{matches}
use Rattle.hume_model.specs.Typing.{IsPattern}

-- each pattern is one for values of the type
pub data ArePatternsOf (types : Types) (ty : Ty) : List PatC → Type 0 where
  none : ArePatternsOf types ty []
  one : {p : PatC} {pats : List PatC} (vars : List Ty) → IsPattern types ty p vars → ArePatternsOf types ty pats → ArePatternsOf types ty (p ∷ pats)

-- the value matches one of the patterns
abbrev pub is_matched : List PatC → Value → Bool
is_matched pats value = list_any (λ (p : PatC). is_some (matches p value)) pats
