-- How deep the expressions that are read are, as the code counts.
use Rattle.std.specs.Prelude.{ℕ, min, map, List}
use Rattle.hume_ast.specs.declared.tree.Exp.{Exp}
use Rattle.hume_ast.specs.declared.tree.Pat.{Pat}
use Rattle.hume_ast.specs.Depth.{exp_depth, deepest, deepest_alternative}

-- a depth as a number of 32 bits: all that are greater count as the greatest
abbrev pub counted : ℕ → ℕ
counted depth = min depth 4294967295

-- how deep the deepest of the expressions is
abbrev pub parts_depth : List Exp → ℕ
parts_depth parts = deepest (map exp_depth parts)

-- how deep the deepest expression of alternatives is
abbrev pub alternatives_depth : List (Pat × Exp) → ℕ
alternatives_depth alternatives = deepest_alternative (map (λ (alternative : Pat × Exp). (alternative.0, exp_depth alternative.1)) alternatives)
