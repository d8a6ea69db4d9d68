-- How many parts tuples, vectors and `case`s may have in patterns, expressions and results, and which types stand there.
use Rattle.std.specs.Prelude.{ℕ, nat_le, ◌&&◌, Bool, true, List, length, Option, Some, None}
use Rattle.std.specs.List.{list_all}
use Rattle.hume_base.specs.declared.limits.TheConstants.{MAX_LENGTH, MAX_PARTS}
use Rattle.hume_base.specs.declared.types.Types.{Types}
use Rattle.hume_model.specs.declared.core_tree.PatC.{PatC, fold-PatC}
use Rattle.hume_model.specs.declared.core_tree.PatC.TheOpen.{PatC-F}
use Rattle.hume_model.specs.declared.core_tree.Expr.{Expr, fold-Expr}
use Rattle.hume_model.specs.declared.core_tree.Expr.TheOpen.{Expr-F}
use Rattle.hume_model.specs.declared.core_tree.InPat.{InPat}
use Rattle.hume_model.specs.declared.core_tree.InPat.TheVariants.{Built}
use Rattle.hume_model.specs.declared.core_tree.Res.{Res, fold-Res}
use Rattle.hume_model.specs.declared.core_tree.Res.TheOpen.{Res-F}
use Rattle.hume_model.specs.declared.core_tree.EqC.{EqC}
use Rattle.hume_model.specs.declared.core_tree.RuleC.{RuleC}
use Rattle.hume_model.specs.Calls.{all_true, if_there}
use Rattle.hume_model.specs.Forms.{are_there}
use Rattle.hume_model.specs.TypeLimits.{is_between, is_type}

-- a tuple has two parts, and no more than are allowed, each of which is as it should be
abbrev pub is_tuple : List Bool → Bool
is_tuple parts = is_between 2 MAX_PARTS (length parts) && all_true parts

-- a vector has an element, and no more than are allowed
abbrev pub is_vector : List Bool → Bool
is_vector parts = is_between 1 MAX_LENGTH (length parts) && all_true parts

-- one level of a pattern, with whether its parts are as they should be
abbrev pub pattern_step : PatC-F Bool → Bool
pattern_step (PatC-F.Con place parts) = all_true parts
pattern_step (PatC-F.Tuple parts) = is_tuple parts
pattern_step _ = true

-- the pattern is as a source may write it
abbrev pub is_written_pattern : PatC → Bool
is_written_pattern = fold-PatC Bool pattern_step

-- a `case` has an alternative
abbrev pub are_alternatives : List (PatC × Bool) → Bool
are_alternatives arms = nat_le 1 (length arms) && list_all (λ (arm : PatC × Bool). is_written_pattern arm.0 && arm.1) arms

-- a vector of so many is indexed or changed
abbrev pub is_length : ℕ → Bool
is_length count = is_between 1 MAX_LENGTH count

-- one level of an expression, where the data types are these
abbrev pub expression_step : Types → Expr-F Bool → Bool
expression_step types (Expr-F.Word word) = true
expression_step types (Expr-F.Var number) = true
expression_step types (Expr-F.Con place parts) = all_true parts
expression_step types (Expr-F.Tuple parts) = is_tuple parts
expression_step types (Expr-F.Vect parts) = is_vector parts
expression_step types (Expr-F.Prim op ty parts) = is_type types ty && all_true parts
expression_step types (Expr-F.Index count vector place) = is_length count && (vector && place)
expression_step types (Expr-F.Update count vector place item) = is_length count && (vector && (place && item))
expression_step types (Expr-F.If test when_true when_false) = test && (when_true && when_false)
expression_step types (Expr-F.Case part forms arms) = are_there types forms && (part && are_alternatives arms)
expression_step types (Expr-F.Let part body) = part && body
expression_step types (Expr-F.Call function parts) = all_true parts
expression_step types (Expr-F.Raise exn part) = if_there part

-- the expression is as a source may write it
abbrev pub is_written : Types → Expr → Bool
is_written types = fold-Expr Bool (expression_step types)

-- so is an expression, if there is one
abbrev pub is_written_if_there : Types → Option Expr → Bool
is_written_if_there types None = true
is_written_if_there types (Some e) = is_written types e

-- one level of a result
abbrev pub result_step : Types → Res-F Bool → Bool
result_step types (Res-F.Outs outs) = list_all (is_written_if_there types) outs
result_step types (Res-F.If test when_true when_false) = is_written types test && (when_true && when_false)
result_step types (Res-F.Case part forms arms) = are_there types forms && (is_written types part && are_alternatives arms)
result_step types (Res-F.Let part body) = is_written types part && body
result_step types (Res-F.Raise exn part) = is_written_if_there types part

-- the result is as a source may write it
abbrev pub is_written_result : Types → Res → Bool
is_written_result types = fold-Res Bool (result_step types)

-- the position is
abbrev pub is_written_position : InPat → Bool
is_written_position (Built p) = is_written_pattern p
is_written_position _ = true

-- the patterns and the body of an equation are
abbrev pub is_written_equation : Types → EqC → Bool
is_written_equation types equation = list_all is_written_pattern equation.pats && is_written types equation.body

-- the positions and the result of a rule are
abbrev pub is_written_rule : Types → RuleC → Bool
is_written_rule types rule = list_all is_written_position rule.pats && is_written_result types rule.result
