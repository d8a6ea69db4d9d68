-- What an evaluation comes to, and what it takes on the way.
use Rattle.std.specs.Prelude.{ℕ, zero, suc, ◌+◌, ◌==◌, List, [], ◌∷◌, ◌++◌, length, Option, None, Some, if◌then◌else◌, slice_get}
use Rattle.hume_base.specs.declared.types.Value.{Value, Word, Tuple, Vector, Con}
use Rattle.hume_base.specs.Flat.{word_of_value}
use Rattle.hume_model.specs.declared.core_tree.PatC.{PatC}
use Rattle.hume_model.specs.declared.core_tree.Expr.{Expr, fold-Expr}
use Rattle.hume_model.specs.declared.core_tree.Expr.TheOpen.{Expr-F}
use Rattle.hume_model.specs.declared.core_tree.EqC.{EqC}
use Rattle.hume_model.specs.declared.core_tree.FunC.{FunC}
use Rattle.hume_model.specs.declared.core_tree.Core.{Core}
use Rattle.hume_model.specs.declared.outcome.Outcome.{Outcome}
use Rattle.hume_model.specs.declared.outcome.Outcome.TheVariants.{Gives, Raises}
use Rattle.hume_model.specs.declared.outcome.Several.{Several}
use Rattle.hume_model.specs.declared.outcome.Several.TheVariants.{All, Raised}
use Rattle.hume_model.specs.Outcomes.{no_case, after_values, on_match}
use Rattle.hume_model.specs.Operations.{prim, misapplied, item_of, updated}
use Rattle.hume_model.specs.Patterns.{matches, matches_all}
use Rattle.hume_model.specs.Meaning.{variable}
use Rattle.box_costs.specs.declared.cost.Cost.{Cost}
use Rattle.box_costs.specs.Costs.{nothing, instructions, pushed, made, above, both}
use Rattle.box_costs.specs.PatternTests.{tries, tries_all}

-- an outcome, and what it took to come to it
pub record Spent (X : Type 0) : Type 0 where
  pub outcome : X
  pub cost : Cost

-- what an expression comes to and takes, by the values of its variables
abbrev pub Spending : Type 0
Spending = List Value → Spent Outcome

abbrev pub spends : {X : Type 0} → Cost → X → Spent X
spends cost outcome = record { outcome = outcome; cost = cost }

-- after what was spent before
abbrev pub after : {X : Type 0} → Cost → Spent X → Spent X
after cost spent = spends (both cost spent.cost) spent.outcome

-- with so many words below on the stack
abbrev pub over : {X : Type 0} → ℕ → Spent X → Spent X
over words spent = spends (above words spent.cost) spent.outcome

-- goes on with the value; after a raise nothing more is spent
abbrev pub go_on : Outcome → (Value → Spent Outcome) → Spent Outcome
go_on (Gives value) go = go value
go_on (Raises exn carried) go = spends nothing (Raises exn carried)

abbrev pub and_then : Spent Outcome → (Value → Spent Outcome) → Spent Outcome
and_then spent go = after spent.cost (go_on spent.outcome go)

-- so many instructions more, where a value was given
abbrev pub ended : ℕ → Spent Outcome → Spent Outcome
ended count spent = and_then spent (λ value. spends (instructions count) (Gives value))

-- goes on with the values
abbrev pub go_on_all : Several → (List Value → Spent Outcome) → Spent Outcome
go_on_all (All values) go = go values
go_on_all (Raised exn carried) go = spends nothing (Raises exn carried)

abbrev pub with_all : Spent Several → (List Value → Spent Outcome) → Spent Outcome
with_all spent go = after spent.cost (go_on_all spent.outcome go)

-- the other parts, above the value
abbrev pub rest_after : Outcome → Spent Several → Spent Several
rest_after (Gives value) rest = spends (above 1 rest.cost) (after_values (value ∷ []) rest.outcome)
rest_after (Raises exn carried) rest = spends nothing (Raised exn carried)

-- parts from left to right, each above the words of those before it
abbrev pub parts_spent : List Spending → List Value → Spent Several
parts_spent [] env = spends nothing (All [])
parts_spent (part ∷ parts) env = after (part env).cost (rest_after (part env).outcome (parts_spent parts env))

-- an object of the values
abbrev pub object_made : (List Value → Value) → List Value → Spent Outcome
object_made make values = spends (made (length values)) (Gives (make values))

-- the element at a place, by the values of a vector and of the place
abbrev pub item_at : ℕ → List Value → Outcome
item_at count (vector ∷ place ∷ []) = item_of count vector place
item_at count _ = misapplied

-- the changed vector, by the values of the vector, of the place and of the new element
abbrev pub changed : ℕ → List Value → Outcome
changed count (vector ∷ place ∷ item ∷ []) = updated count vector place item
changed count _ = misapplied

-- a changed copy of so many words, unless the place is outside
abbrev pub copied : ℕ → Outcome → Spent Outcome
copied count (Gives value) = spends (made count) (Gives value)
copied count (Raises exn carried) = spends (instructions 1) (Raises exn carried)

-- a pattern's values are put on the stack, and what follows ends with so many instructions
abbrev pub taken : ℕ → (List Value → Spent Outcome) → List Value → Spent Outcome
taken ending go values = over (length values) (after (instructions (length values)) (ended ending (go values)))

-- what raises where nothing matches
abbrev pub none_taken : Spent Outcome
none_taken = spends (instructions 1) no_case

-- the first alternative whose pattern the value matches, after the tests of those before it
abbrev pub first_arm : List (PatC × Spending) → Value → Spending
first_arm [] value env = none_taken
first_arm (arm ∷ arms) value env =
    after (instructions (tries arm.0 value).tests)
    (on_match (matches arm.0 value) (taken 2 (λ values. arm.1 (env ++ values))) (first_arm arms value env))

abbrev pub raise_spent : ℕ → Option Spending → Spending
raise_spent exn None env = after pushed (spends (instructions 1) (Raises exn None))
raise_spent exn (Some part) env = and_then (part env) (λ value. spends (instructions 1) (Raises exn (Some value)))

-- one level of an expression, case by case as in its meaning and in its bound
abbrev pub spent_step : (ℕ → List Value → Spent Outcome) → Expr-F Spending → Spending
spent_step call (Expr-F.Word word) env = spends pushed (Gives (Word word))
spent_step call (Expr-F.Var number) env = spends pushed (Gives (variable (slice_get env number)))
spent_step call (Expr-F.Con place parts) env = with_all (parts_spent parts env) (object_made (λ values. Con place values))
spent_step call (Expr-F.Tuple parts) env = with_all (parts_spent parts env) (object_made (λ values. Tuple values))
spent_step call (Expr-F.Vect parts) env = with_all (parts_spent parts env) (object_made (λ values. Vector values))
spent_step call (Expr-F.Prim op ty parts) env = with_all (parts_spent parts env) (λ values. spends pushed (prim op ty values))
spent_step call (Expr-F.Index count vector place) env =
    with_all (parts_spent (vector ∷ place ∷ []) env) (λ values. spends pushed (item_at count values))
spent_step call (Expr-F.Update count vector place item) env =
    with_all (parts_spent (vector ∷ place ∷ item ∷ []) env) (λ values. copied count (changed count values))
spent_step call (Expr-F.If test when_true when_false) env =
    and_then (test env) (λ v. after (instructions 1) (if word_of_value v == 0 then when_false env else ended 1 (when_true env)))
spent_step call (Expr-F.Case part forms arms) env = and_then (part env) (λ v. over 1 (first_arm arms v env))
spent_step call (Expr-F.Let part body) env = and_then (part env) (λ v. over 1 (ended 1 (body (env ++ v ∷ []))))
spent_step call (Expr-F.Call function parts) env =
    with_all (parts_spent parts env) (λ values. over (length values + 2) (after (instructions 1) (call function values)))
spent_step call (Expr-F.Raise exn part) env = raise_spent exn part env

-- what an expression comes to and takes, by what functions do
abbrev pub spent_with : (ℕ → List Value → Spent Outcome) → Expr → Spending
spent_with call = fold-Expr Spending (spent_step call)

-- the body of the first equation whose patterns the arguments match, after the tests of those before it
abbrev pub first_equation : (Expr → Spending) → List EqC → List Value → Spent Outcome
first_equation spending [] args = none_taken
first_equation spending (equation ∷ equations) args =
    after (instructions (tries_all equation.pats args).tests)
    (on_match (matches_all equation.pats args) (taken 1 (spending equation.body)) (first_equation spending equations args))

-- what a function comes to and takes; one that isn't there matches nothing
abbrev pub call_of : (Expr → Spending) → Option FunC → List Value → Spent Outcome
call_of spending None args = none_taken
call_of spending (Some function) args = first_equation spending function.equations args

-- what each function of a number below the bound comes to and takes
unfoldable pub spent_below : Core → ℕ → ℕ → List Value → Spent Outcome
spent_below core zero function args = none_taken
spent_below core (suc bound) function args =
    if function == bound then call_of (spent_with (spent_below core bound)) (slice_get core.funs bound) args
    else spent_below core bound function args

-- what an expression of a program comes to and takes
abbrev pub spent : Core → List Value → Expr → Spent Outcome
spent core env e = spent_with (spent_below core (length core.funs)) e env
