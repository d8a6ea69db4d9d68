-- How deep expressions and results are: 1 for a leaf, and else 1 more than the deepest part. Patterns and types don't count.
use Rattle.std.specs.Prelude.{ℕ, ◌+◌, max, List, map, Option, Some, None}
use Rattle.hume_base.specs.Sizes.{greatest}
use Rattle.hume_model.specs.declared.core_tree.PatC.{PatC}
use Rattle.hume_model.specs.declared.core_tree.Expr.{Expr, fold-Expr}
use Rattle.hume_model.specs.declared.core_tree.Expr.TheOpen.{Expr-F}
use Rattle.hume_model.specs.declared.core_tree.Res.{Res, fold-Res}
use Rattle.hume_model.specs.declared.core_tree.Res.TheOpen.{Res-F}

-- the depth of the deepest branch of several alternatives, 0 where there are none
abbrev pub deepest_arm : List (PatC × ℕ) → ℕ
deepest_arm arms = greatest (map (λ (arm : PatC × ℕ). arm.1) arms)

-- the depth of what may be there, 0 where it isn't
abbrev pub depth_if_there : Option ℕ → ℕ
depth_if_there None = 0
depth_if_there (Some depth) = depth

-- the depth of the deepest part of an expression, by those of its parts; 0 where there are none
abbrev pub deepest_part : Expr-F ℕ → ℕ
deepest_part (Expr-F.Word word) = 0
deepest_part (Expr-F.Var number) = 0
deepest_part (Expr-F.Con place parts) = greatest parts
deepest_part (Expr-F.Tuple parts) = greatest parts
deepest_part (Expr-F.Vect parts) = greatest parts
deepest_part (Expr-F.Prim op ty parts) = greatest parts
deepest_part (Expr-F.Index count vector place) = max vector place
deepest_part (Expr-F.Update count vector place item) = max vector (max place item)
deepest_part (Expr-F.If test when_true when_false) = max test (max when_true when_false)
deepest_part (Expr-F.Case part forms arms) = max part (deepest_arm arms)
deepest_part (Expr-F.Let part body) = max part body
deepest_part (Expr-F.Call function parts) = greatest parts
deepest_part (Expr-F.Raise exn part) = depth_if_there part

-- one level of an expression
abbrev pub depth_step : Expr-F ℕ → ℕ
depth_step layer = 1 + deepest_part layer

-- the depth of an expression
abbrev pub expression_depth : Expr → ℕ
expression_depth = fold-Expr ℕ depth_step

-- the depth of an output, 0 where it isn't there
abbrev pub out_depth : Option Expr → ℕ
out_depth None = 0
out_depth (Some e) = expression_depth e

-- the depth of the deepest part of a result
abbrev pub deepest_in_result : Res-F ℕ → ℕ
deepest_in_result (Res-F.Outs outs) = greatest (map out_depth outs)
deepest_in_result (Res-F.If test when_true when_false) = max (expression_depth test) (max when_true when_false)
deepest_in_result (Res-F.Case part forms arms) = max (expression_depth part) (deepest_arm arms)
deepest_in_result (Res-F.Let part body) = max (expression_depth part) body
deepest_in_result (Res-F.Raise exn part) = out_depth part

-- one level of a result
abbrev pub result_depth_step : Res-F ℕ → ℕ
result_depth_step layer = 1 + deepest_in_result layer

-- the depth of a result
abbrev pub result_depth : Res → ℕ
result_depth = fold-Res ℕ result_depth_step
