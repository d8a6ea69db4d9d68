-- Which core a typed tree erases to.
use Rattle.std.specs.Prelude.{ℕ, [], ◌∷◌, map}
use Rattle.std.specs.Option.{option_map}
use Rattle.hume_base.specs.declared.types.Ty.{Ty, out-Ty}
use Rattle.hume_base.specs.declared.types.Ty.TheOpen.{Ty-F}
use Rattle.hume_model.specs.declared.core_tree.Expr.{Expr, roll-Expr}
use Rattle.hume_model.specs.declared.core_tree.Expr.TheOpen.{Expr-F}
use Rattle.hume_model.specs.declared.core_tree.Op.TheVariants.{Convert}
use Rattle.hume_model.specs.declared.core_tree.Res.{Res, roll-Res}
use Rattle.hume_model.specs.declared.core_tree.Res.TheOpen.{Res-F}
use Rattle.hume_model.specs.declared.core_tree.EqC.{EqC}
use Rattle.hume_model.specs.declared.core_tree.RuleC.{RuleC}
use Rattle.hume_model.specs.declared.core_tree.HandC.{HandC}
use Rattle.hume_model.specs.Forms.{forms_of}
use Rattle.typed_core.specs.declared.typed_tree.TypedExpr.{TypedExpr, fold-TypedExpr}
use Rattle.typed_core.specs.declared.typed_tree.TypedExpr.TheOpen.{TypedExpr-F}
use Rattle.typed_core.specs.declared.typed_tree.TypedResult.{TypedResult, fold-TypedResult}
use Rattle.typed_core.specs.declared.typed_tree.TypedResult.TheOpen.{TypedResult-F}
use Rattle.typed_core.specs.declared.typed_tree.TypedEquation.{TypedEquation}
use Rattle.typed_core.specs.declared.typed_tree.TypedRule.{TypedRule}
use Rattle.typed_core.specs.declared.typed_tree.TypedHandler.{TypedHandler}

-- how many elements vectors of one level of a type have; none where it isn't one of vectors
abbrev pub count_in : Ty-F Ty → ℕ
count_in (Ty-F.Vector count item) = count
count_in _ = 0

-- how many elements vectors of the type have
abbrev pub count_of : Ty → ℕ
count_of ty = count_in (out-Ty ty)

-- one level of an expression: types that the core doesn't say are left out
abbrev pub erased_layer : {X : Type 0} → TypedExpr-F X → Expr-F X
erased_layer (TypedExpr-F.Word word) = Expr-F.Word word
erased_layer (TypedExpr-F.Var number) = Expr-F.Var number
erased_layer (TypedExpr-F.Con place parts) = Expr-F.Con place parts
erased_layer (TypedExpr-F.Tuple parts) = Expr-F.Tuple parts
erased_layer (TypedExpr-F.Vect parts) = Expr-F.Vect parts
erased_layer (TypedExpr-F.Prim op of parts) = Expr-F.Prim op of parts
erased_layer (TypedExpr-F.Convert from to part) = Expr-F.Prim Convert to (part ∷ [])
erased_layer (TypedExpr-F.Index of places vector place) = Expr-F.Index (count_of of) vector place
erased_layer (TypedExpr-F.Update of places vector place item) = Expr-F.Update (count_of of) vector place item
erased_layer (TypedExpr-F.If test when_true when_false) = Expr-F.If test when_true when_false
erased_layer (TypedExpr-F.Case of part arms) = Expr-F.Case part (forms_of of) arms
erased_layer (TypedExpr-F.Let of part body) = Expr-F.Let part body
erased_layer (TypedExpr-F.Call function parts) = Expr-F.Call function parts
erased_layer (TypedExpr-F.Raise exn part) = Expr-F.Raise exn part

-- an expression
abbrev pub erased : TypedExpr → Expr
erased = fold-TypedExpr Expr (λ layer. roll-Expr (erased_layer layer))

-- one level of a result
abbrev pub erased_result_layer : {X : Type 0} → TypedResult-F X → Res-F X
erased_result_layer (TypedResult-F.Outs outs) = Res-F.Outs (map (option_map erased) outs)
erased_result_layer (TypedResult-F.If test when_true when_false) = Res-F.If (erased test) when_true when_false
erased_result_layer (TypedResult-F.Case of part arms) = Res-F.Case (erased part) (forms_of of) arms
erased_result_layer (TypedResult-F.Let of part body) = Res-F.Let (erased part) body
erased_result_layer (TypedResult-F.Raise exn part) = Res-F.Raise exn (option_map erased part)

-- the result of a rule or a handler
abbrev pub erased_result : TypedResult → Res
erased_result = fold-TypedResult Res (λ layer. roll-Res (erased_result_layer layer))

-- an equation of a function
abbrev pub erased_equation : TypedEquation → EqC
erased_equation equation = record { pats = equation.pats; body = erased equation.body }

-- a rule
abbrev pub erased_rule : TypedRule → RuleC
erased_rule rule = record { pats = rule.pats; result = erased_result rule.result }

-- a handler
abbrev pub erased_handler : TypedHandler → HandC
erased_handler handler = record { exn = handler.exn; bound = handler.bound; result = erased_result handler.result }
