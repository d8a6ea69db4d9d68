-- How many parts and levels results have at most, and how many an unfolded call adds at most.
use Rattle.std.specs.Prelude.{ℕ, ◌+◌, ◌≤◌, List, map, length}
use Rattle.hume_base.specs.Sizes.{greatest}
use Rattle.hume_model.specs.declared.core_tree.Res.{Res}
use Rattle.hume_model.specs.declared.core_tree.EqC.{EqC}
use Rattle.hume_model.specs.declared.core_tree.FunC.{FunC}
use Rattle.calculus_laws.specs.Depth.{expression_depth, result_depth}
use Rattle.calculus_laws.specs.Parts.{expression_parts, result_parts}
use Rattle.box_calculus.specs.declared.sizes.Size.{Size}

-- the result has no more parts and no more levels
pub record IsWithin (size : Size) (result : Res) : Type 0 where
  pub parts : result_parts result ≤ size.parts
  pub depth : result_depth result ≤ size.depth

-- the parts of an equation's body, and a `let` for each of its patterns
abbrev pub added_parts : EqC → ℕ
added_parts equation = length equation.pats + expression_parts equation.body

-- the levels of an equation's body, and one for each of its patterns
abbrev pub added_depth : EqC → ℕ
added_depth equation = length equation.pats + expression_depth equation.body

-- the most parts that an equation of a function adds
abbrev pub most_parts : FunC → ℕ
most_parts function = greatest (map added_parts function.equations)

-- the most levels
abbrev pub most_depth : FunC → ℕ
most_depth function = greatest (map added_depth function.equations)

-- no equation of a function adds more
pub record AddWithin (size : Size) (funs : List FunC) : Type 0 where
  pub parts : greatest (map most_parts funs) ≤ size.parts
  pub depth : greatest (map most_depth funs) ≤ size.depth
