-- Which functions an expression calls.
use Rattle.std.specs.Prelude.{◌≡◌, ℕ, nat_lt, ◌&&◌, Bool, true, List, Option, Some, None, slice_get}
use Rattle.std.specs.List.{list_all}
use Rattle.hume_model.specs.declared.core_tree.PatC.{PatC}
use Rattle.hume_model.specs.declared.core_tree.Expr.{Expr, fold-Expr}
use Rattle.hume_model.specs.declared.core_tree.Expr.TheOpen.{Expr-F}
use Rattle.hume_model.specs.declared.core_tree.EqC.{EqC}
use Rattle.hume_model.specs.declared.core_tree.FunC.{FunC}
use Rattle.hume_model.specs.declared.core_tree.Core.{Core}

-- each answer is true
abbrev pub all_true : List Bool → Bool
all_true answers = list_all (λ answer. answer) answers

-- the answer is true, if there is one
abbrev pub if_there : Option Bool → Bool
if_there None = true
if_there (Some answer) = answer

-- one level of an expression, with whether its parts call only functions of numbers below the bound
abbrev pub calls_step : ℕ → Expr-F Bool → Bool
calls_step bound (Expr-F.Word word) = true
calls_step bound (Expr-F.Var number) = true
calls_step bound (Expr-F.Con place parts) = all_true parts
calls_step bound (Expr-F.Tuple parts) = all_true parts
calls_step bound (Expr-F.Vect parts) = all_true parts
calls_step bound (Expr-F.Prim op ty parts) = all_true parts
calls_step bound (Expr-F.Index count vector place) = vector && place
calls_step bound (Expr-F.Update count vector place item) = vector && (place && item)
calls_step bound (Expr-F.If test when_true when_false) = test && (when_true && when_false)
calls_step bound (Expr-F.Case part forms arms) = part && list_all (λ (arm : PatC × Bool). arm.1) arms
calls_step bound (Expr-F.Let part body) = part && body
calls_step bound (Expr-F.Call function parts) = nat_lt function bound && all_true parts
calls_step bound (Expr-F.Raise exn part) = if_there part

-- the expression calls only functions of numbers below the bound
abbrev pub calls_below : ℕ → Expr → Bool
calls_below bound = fold-Expr Bool (calls_step bound)

-- the body of the equation does
abbrev pub equation_calls : ℕ → EqC → Bool
equation_calls bound equation = calls_below bound equation.body

-- each function calls only functions of smaller numbers
abbrev pub CallsGoDown : Core → Type 0
CallsGoDown core =
    (number : ℕ) (function : FunC) → slice_get core.funs number ≡ Some function → list_all (equation_calls number) function.equations ≡ true
