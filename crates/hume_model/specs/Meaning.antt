-- What an expression comes to, by the values of its variables.
use Rattle.std.specs.Prelude.{ℕ, zero, suc, ◌==◌, List, [], ◌∷◌, ◌++◌, length, Option, None, Some, if◌then◌else◌, slice_get}
use Rattle.hume_base.specs.declared.types.Value.{Value, Word, Tuple, Vector, Con}
use Rattle.hume_model.specs.declared.core_tree.PatC.{PatC}
use Rattle.hume_model.specs.declared.core_tree.Expr.{Expr, fold-Expr}
use Rattle.hume_model.specs.declared.core_tree.Expr.TheOpen.{Expr-F}
use Rattle.hume_model.specs.declared.core_tree.EqC.{EqC}
use Rattle.hume_model.specs.declared.core_tree.FunC.{FunC}
use Rattle.hume_model.specs.declared.core_tree.Core.{Core}
use Rattle.hume_model.specs.declared.outcome.Outcome.{Outcome}
use Rattle.hume_model.specs.declared.outcome.Outcome.TheVariants.{Gives}
use Rattle.hume_model.specs.Outcomes.{Meaning, no_case, and_then, with_all, in_order, raised, on_match}
use Rattle.hume_base.specs.Flat.{word_of_value}
use Rattle.hume_model.specs.Operations.{prim, item_of, updated}
use Rattle.hume_model.specs.Patterns.{matches, matches_all}

-- what each function gives for its arguments
abbrev pub Calls : Type 0
Calls = ℕ → List Value → Outcome

-- the value of a variable; the word 0 where there is none, which typed expressions don't meet
abbrev pub variable : Option Value → Value
variable None = Word 0
variable (Some value) = value

-- the first alternative whose pattern the value matches, with the pattern's variables after the others
abbrev pub first_arm : List (PatC × Meaning) → Value → Meaning
first_arm [] value env = no_case
first_arm (arm ∷ arms) value env = on_match (matches arm.0 value) (λ values. arm.1 (env ++ values)) (first_arm arms value env)

-- one level of an expression, with what its parts come to in their places
abbrev pub eval_step : Calls → Expr-F Meaning → Meaning
eval_step call (Expr-F.Word word) env = Gives (Word word)
eval_step call (Expr-F.Var number) env = Gives (variable (slice_get env number))
eval_step call (Expr-F.Con place parts) env = with_all (in_order parts env) (λ values. Gives (Con place values))
eval_step call (Expr-F.Tuple parts) env = with_all (in_order parts env) (λ values. Gives (Tuple values))
eval_step call (Expr-F.Vect parts) env = with_all (in_order parts env) (λ values. Gives (Vector values))
eval_step call (Expr-F.Prim op ty parts) env = with_all (in_order parts env) (prim op ty)
eval_step call (Expr-F.Index count vector place) env =
    and_then (vector env) (λ v. and_then (place env) (item_of count v))
eval_step call (Expr-F.Update count vector place item) env =
    and_then (vector env) (λ v. and_then (place env) (λ p. and_then (item env) (updated count v p)))
eval_step call (Expr-F.If test when_true when_false) env = and_then (test env) (λ v. if word_of_value v == 0 then when_false env else when_true env)
eval_step call (Expr-F.Case part forms arms) env = and_then (part env) (λ v. first_arm arms v env)
eval_step call (Expr-F.Let part body) env = and_then (part env) (λ v. body (env ++ v ∷ []))
eval_step call (Expr-F.Call function parts) env = with_all (in_order parts env) (call function)
eval_step call (Expr-F.Raise exn part) env = raised exn part env

-- what an expression comes to, by what functions give
abbrev pub eval_with : Calls → Expr → Meaning
eval_with call = fold-Expr Meaning (eval_step call)

-- the body of the first equation whose patterns the arguments match
abbrev pub first_equation : (Expr → Meaning) → List EqC → List Value → Outcome
first_equation meaning [] args = no_case
first_equation meaning (equation ∷ equations) args =
    on_match (matches_all equation.pats args) (meaning equation.body) (first_equation meaning equations args)

-- what a function gives for its arguments; one that isn't there matches nothing
abbrev pub call_of : (Expr → Meaning) → Option FunC → List Value → Outcome
call_of meaning None args = no_case
call_of meaning (Some function) args = first_equation meaning function.equations args

-- what each function of a number below the bound gives, which calls only functions of smaller numbers
unfoldable pub call_below : Core → ℕ → Calls
call_below core zero function args = no_case
call_below core (suc bound) function args =
    if function == bound then call_of (eval_with (call_below core bound)) (slice_get core.funs bound) args
    else call_below core bound function args

-- what an expression of a program comes to
abbrev pub eval : Core → List Value → Expr → Outcome
eval core env e = eval_with (call_below core (length core.funs)) e env
