-- When a rule fits the values at a box's inputs, which of them it takes, and what its variables stand for.
use Rattle.std.specs.Prelude.{Bool, true, false, ◌&&◌, List, [], ◌∷◌, ◌++◌, Option, None, Some}
use Rattle.std.specs.Option.{is_some, unwrap_or}
use Rattle.hume_base.specs.declared.types.Value.{Value}
use Rattle.hume_model.specs.declared.core_tree.InPat.{InPat}
use Rattle.hume_model.specs.declared.core_tree.InPat.TheVariants.{Star, AnyStar, Any, Built}
use Rattle.hume_model.specs.Patterns.{matches}

-- the position fits the value, if one is there: `*` and `_*` always, `_` any value, and a pattern a value that matches
abbrev pub fits_at : InPat → Option Value → Bool
fits_at Star input = true
fits_at AnyStar input = true
fits_at Any input = is_some input
fits_at (Built pattern) None = false
fits_at (Built pattern) (Some value) = is_some (matches pattern value)

-- each position fits the value at its input, if one is there
abbrev pub fits : List InPat → List (Option Value) → Bool
fits [] ins = true
fits (pat ∷ pats) [] = false
fits (pat ∷ pats) (input ∷ ins) = fits_at pat input && fits pats ins

-- the position takes the value that is there: `*` never
abbrev pub taken_by : InPat → Option Value → Bool
taken_by Star input = false
taken_by AnyStar input = is_some input
taken_by Any input = true
taken_by (Built pattern) input = true

-- for each position whether the value there is taken
abbrev pub taken_at : List InPat → List (Option Value) → List Bool
taken_at [] ins = []
taken_at (pat ∷ pats) [] = []
taken_at (pat ∷ pats) (input ∷ ins) = taken_by pat input ∷ taken_at pats ins

-- the values of the variables of the position's pattern
abbrev pub bound_by : InPat → Option Value → List Value
bound_by (Built pattern) (Some value) = unwrap_or (matches pattern value) []
bound_by _ input = []

-- the values of a rule's variables, position by position
abbrev pub bound : List InPat → List (Option Value) → List Value
bound [] ins = []
bound (pat ∷ pats) [] = []
bound (pat ∷ pats) (input ∷ ins) = bound_by pat input ++ bound pats ins
