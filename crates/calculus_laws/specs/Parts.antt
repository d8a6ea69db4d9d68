-- How many parts expressions and results have: 1 for themselves, and those of each part. Patterns and types don't count.
use Rattle.std.specs.Prelude.{ℕ, ◌+◌, List, map, sum, Option, Some, None}
use Rattle.hume_model.specs.declared.core_tree.PatC.{PatC}
use Rattle.hume_model.specs.declared.core_tree.Expr.{Expr, fold-Expr}
use Rattle.hume_model.specs.declared.core_tree.Expr.TheOpen.{Expr-F}
use Rattle.hume_model.specs.declared.core_tree.Res.{Res, fold-Res}
use Rattle.hume_model.specs.declared.core_tree.Res.TheOpen.{Res-F}

-- the parts of the branches of several alternatives
abbrev pub parts_in_arms : List (PatC × ℕ) → ℕ
parts_in_arms arms = sum (map (λ (arm : PatC × ℕ). arm.1) arms)

-- the parts of what may be there
abbrev pub parts_if_there : Option ℕ → ℕ
parts_if_there None = 0
parts_if_there (Some parts) = parts

-- the parts inside an expression, by those of its parts
abbrev pub parts_inside : Expr-F ℕ → ℕ
parts_inside (Expr-F.Word word) = 0
parts_inside (Expr-F.Var number) = 0
parts_inside (Expr-F.Con place parts) = sum parts
parts_inside (Expr-F.Tuple parts) = sum parts
parts_inside (Expr-F.Vect parts) = sum parts
parts_inside (Expr-F.Prim op ty parts) = sum parts
parts_inside (Expr-F.Index count vector place) = vector + place
parts_inside (Expr-F.Update count vector place item) = vector + (place + item)
parts_inside (Expr-F.If test when_true when_false) = test + (when_true + when_false)
parts_inside (Expr-F.Case part forms arms) = part + parts_in_arms arms
parts_inside (Expr-F.Let part body) = part + body
parts_inside (Expr-F.Call function parts) = sum parts
parts_inside (Expr-F.Raise exn part) = parts_if_there part

-- one level of an expression
abbrev pub parts_step : Expr-F ℕ → ℕ
parts_step layer = 1 + parts_inside layer

-- the parts of an expression
abbrev pub expression_parts : Expr → ℕ
expression_parts = fold-Expr ℕ parts_step

-- the parts of an output, 0 where it isn't there
abbrev pub out_parts : Option Expr → ℕ
out_parts None = 0
out_parts (Some e) = expression_parts e

-- the parts inside a result, by those of its branches
abbrev pub parts_inside_result : Res-F ℕ → ℕ
parts_inside_result (Res-F.Outs outs) = sum (map out_parts outs)
parts_inside_result (Res-F.If test when_true when_false) = expression_parts test + (when_true + when_false)
parts_inside_result (Res-F.Case part forms arms) = expression_parts part + parts_in_arms arms
parts_inside_result (Res-F.Let part body) = expression_parts part + body
parts_inside_result (Res-F.Raise exn part) = out_parts part

-- one level of a result
abbrev pub result_parts_step : Res-F ℕ → ℕ
result_parts_step layer = 1 + parts_inside_result layer

-- the parts of a result
abbrev pub result_parts : Res → ℕ
result_parts = fold-Res ℕ result_parts_step
