-- Which exceptions an expression or a result may raise, by its form alone.
use Rattle.std.specs.Prelude.{ℕ, zero, suc, ◌==◌, not, ◌&&◌, ◌||◌, Bool, true, false, List, ◌∷◌, length, map, Option, Some, None, if◌then◌else◌, slice_get}
use Rattle.std.specs.List.{list_any}
use Rattle.hume_base.specs.declared.types.Types.{Types}
use Rattle.hume_model.specs.declared.core_tree.Op.{Op}
use Rattle.hume_model.specs.declared.core_tree.Op.TheVariants.{Div, Mod}
use Rattle.hume_model.specs.declared.core_tree.PatC.{PatC}
use Rattle.hume_model.specs.declared.core_tree.Expr.{Expr, fold-Expr}
use Rattle.hume_model.specs.declared.core_tree.Expr.TheOpen.{Expr-F}
use Rattle.hume_model.specs.declared.core_tree.Res.{Res, fold-Res}
use Rattle.hume_model.specs.declared.core_tree.Res.TheOpen.{Res-F}
use Rattle.hume_model.specs.declared.core_tree.EqC.{EqC}
use Rattle.hume_model.specs.declared.core_tree.FunC.{FunC}
use Rattle.hume_model.specs.declared.core_tree.Core.{Core}
use Rattle.hume_model.specs.declared.exceptions.TheConstants.{DIV_ZERO, RANGE, NO_CASE}
use Rattle.hume_model.specs.Operations.{is_place}
use Rattle.hume_model.specs.Completeness.{are_complete, are_complete_equations}

-- what is seen of a part: its word, if it is a literal, and whether it may raise the exception
pub record Seen : Type 0 where
  pub literal : Option ℕ
  pub raises : Bool

-- a part that is no literal
abbrev pub seen : Bool → Seen
seen raises = record { literal = None; raises = raises }

-- one of the parts may raise the exception
abbrev pub some_raise : List Seen → Bool
some_raise parts = list_any (λ (part : Seen). part.raises) parts

-- a divisor that is not a literal other than 0
abbrev pub may_be_zero : Option ℕ → Bool
may_be_zero None = true
may_be_zero (Some word) = word == 0

-- the operation divides by what may be 0
abbrev pub may_divide_by_zero : Op → List Seen → Bool
may_divide_by_zero Div (left ∷ right ∷ more) = may_be_zero right.literal
may_divide_by_zero Mod (left ∷ right ∷ more) = may_be_zero right.literal
may_divide_by_zero _ _ = false

-- a place that is not a literal from 1 to the count
abbrev pub may_be_outside : ℕ → Option ℕ → Bool
may_be_outside count None = true
may_be_outside count (Some word) = not (is_place count word)

-- one level of an expression, for the exception; `called` says of each function whether it may raise it
abbrev pub raises_step : Types → (ℕ → Bool) → ℕ → Expr-F Seen → Seen
raises_step types called exn (Expr-F.Word word) = record { literal = Some word; raises = false }
raises_step types called exn (Expr-F.Var number) = seen false
raises_step types called exn (Expr-F.Con place parts) = seen (some_raise parts)
raises_step types called exn (Expr-F.Tuple parts) = seen (some_raise parts)
raises_step types called exn (Expr-F.Vect parts) = seen (some_raise parts)
raises_step types called exn (Expr-F.Prim op ty parts) = seen (some_raise parts || ((exn == DIV_ZERO) && may_divide_by_zero op parts))
raises_step types called exn (Expr-F.Index count vector place) =
    seen (vector.raises || (place.raises || ((exn == RANGE) && may_be_outside count place.literal)))
raises_step types called exn (Expr-F.Update count vector place item) =
    seen (vector.raises || (place.raises || (item.raises || ((exn == RANGE) && may_be_outside count place.literal))))
raises_step types called exn (Expr-F.If test when_true when_false) = seen (test.raises || (when_true.raises || when_false.raises))
raises_step types called exn (Expr-F.Case part forms arms) =
    seen (part.raises || (list_any (λ (arm : PatC × Seen). arm.1.raises) arms
    || ((exn == NO_CASE) && not (are_complete types forms (map (λ (arm : PatC × Seen). arm.0) arms)))))
raises_step types called exn (Expr-F.Let part body) = seen (part.raises || body.raises)
raises_step types called exn (Expr-F.Call function parts) = seen (some_raise parts || called function)
raises_step types called exn (Expr-F.Raise other None) = seen (other == exn)
raises_step types called exn (Expr-F.Raise other (Some part)) = seen (part.raises || (other == exn))

-- what is seen of an expression, by which functions may raise the exception
abbrev pub seen_with : Types → (ℕ → Bool) → ℕ → Expr → Seen
seen_with types called exn = fold-Expr Seen (raises_step types called exn)

-- the expression may raise the exception, where `called` says of each function whether it may
abbrev pub raises_with : Types → (ℕ → Bool) → ℕ → Expr → Bool
raises_with types called exn e = (seen_with types called exn e).raises

-- the equations of a function may; so may a call of a function that isn't there, for want of an equation
abbrev pub function_raises : Types → (Expr → Bool) → ℕ → Option FunC → Bool
function_raises types raises exn None = exn == NO_CASE
function_raises types raises exn (Some function) =
    list_any (λ (equation : EqC). raises equation.body) function.equations
    || ((exn == NO_CASE) && not (are_complete_equations types function.params function.equations))

-- each function of a number below the bound may, which calls only functions of smaller numbers
unfoldable pub raises_below : Core → ℕ → ℕ → ℕ → Bool
raises_below core zero exn function = exn == NO_CASE
raises_below core (suc bound) exn function =
    if function == bound then function_raises core.types (raises_with core.types (raises_below core bound exn) exn) exn (slice_get core.funs bound)
    else raises_below core bound exn function

-- the expression of a program may raise the exception
abbrev pub may_raise : Core → ℕ → Expr → Bool
may_raise core exn = raises_with core.types (raises_below core (length core.funs) exn) exn

-- so may an expression, if there is one
abbrev pub raises_if_there : (Expr → Bool) → Option Expr → Bool
raises_if_there raises None = false
raises_if_there raises (Some e) = raises e

-- one level of a result, for the exception; `raises` says of each expression whether it may raise it
abbrev pub result_raises_step : Types → (Expr → Bool) → ℕ → Res-F Bool → Bool
result_raises_step types raises exn (Res-F.Outs outs) = list_any (raises_if_there raises) outs
result_raises_step types raises exn (Res-F.If test when_true when_false) = raises test || (when_true || when_false)
result_raises_step types raises exn (Res-F.Case part forms arms) =
    raises part || (list_any (λ (arm : PatC × Bool). arm.1) arms
    || ((exn == NO_CASE) && not (are_complete types forms (map (λ (arm : PatC × Bool). arm.0) arms))))
result_raises_step types raises exn (Res-F.Let part body) = raises part || body
result_raises_step types raises exn (Res-F.Raise other part) = raises_if_there raises part || (other == exn)

-- the result of a rule or a handler may raise the exception
abbrev pub result_may_raise : Core → ℕ → Res → Bool
result_may_raise core exn = fold-Res Bool (result_raises_step core.types (may_raise core exn) exn)
