-- What a position of a rule has.
use Rattle.std.specs.Prelude.{ℕ}
use Rattle.hume_model.specs.declared.core_tree.InPat.{InPat}
use Rattle.hume_model.specs.declared.core_tree.InPat.TheVariants.{Star, AnyStar, Any, Built}
use Rattle.box_costs.specs.PatternTests.{variables_of}

-- how many variables
abbrev pub variables_at : InPat → ℕ
variables_at Star = 0
variables_at AnyStar = 0
variables_at Any = 0
variables_at (Built pattern) = variables_of pattern

-- how many inputs that are built
abbrev pub count_at : InPat → ℕ
count_at Star = 0
count_at AnyStar = 0
count_at Any = 0
count_at (Built pattern) = 1
