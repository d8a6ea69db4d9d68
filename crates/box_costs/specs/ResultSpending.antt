-- What a result, a rule and a box come to, and what they take on the way.
use Rattle.std.specs.Prelude.{ℕ, ◌+◌, ◌==◌, List, [], ◌∷◌, ◌++◌, map, length, Option, None, Some, if◌then◌else◌, slice_get}
use Rattle.std.specs.List.{find}
use Rattle.std.specs.Option.{option_map, option_and_then}
use Rattle.hume_base.specs.declared.types.Value.{Value}
use Rattle.hume_base.specs.Flat.{word_of_value}
use Rattle.hume_model.specs.declared.core_tree.PatC.{PatC}
use Rattle.hume_model.specs.declared.core_tree.Expr.{Expr}
use Rattle.hume_model.specs.declared.core_tree.Res.{Res, fold-Res}
use Rattle.hume_model.specs.declared.core_tree.Res.TheOpen.{Res-F}
use Rattle.hume_model.specs.declared.core_tree.InPat.{InPat}
use Rattle.hume_model.specs.declared.core_tree.InPat.TheVariants.{Built}
use Rattle.hume_model.specs.declared.core_tree.RuleC.{RuleC}
use Rattle.hume_model.specs.declared.core_tree.HandC.{HandC}
use Rattle.hume_model.specs.declared.core_tree.BoxC.{BoxC}
use Rattle.hume_model.specs.declared.core_tree.Core.{Core}
use Rattle.hume_model.specs.declared.exceptions.TheConstants.{NO_CASE}
use Rattle.hume_model.specs.declared.outcome.Outcome.{Outcome}
use Rattle.hume_model.specs.declared.outcome.Outcome.TheVariants.{Gives, Raises}
use Rattle.hume_model.specs.declared.outcome.Outputs.{Outputs}
use Rattle.hume_model.specs.declared.outcome.Outputs.TheVariants.{Asserts, Throws}
use Rattle.hume_model.specs.Outcomes.{on_match, after_outputs, thrown}
use Rattle.hume_model.specs.Patterns.{matches}
use Rattle.hume_model.specs.Matching.{bound}
use Rattle.hume_model.specs.Firing.{rule_fits, handler_env, outputs_or_none}
use Rattle.box_costs.specs.declared.cost.Cost.{Cost}
use Rattle.box_costs.specs.Costs.{nothing, instructions, objects, above, both}
use Rattle.box_costs.specs.PatternTests.{tries}
use Rattle.box_costs.specs.Building.{built_of}
use Rattle.box_costs.specs.Bounds.{handler_variables, built_patterns}
use Rattle.box_costs.specs.Spending.{Spent, Spending, spends, after, over, raise_spent, spent}

-- what a result comes to and takes, by the values of its variables
abbrev pub ResultSpending : Type 0
ResultSpending = List Value → Spent Outputs

-- goes on to outputs; after a raise nothing more is spent
abbrev pub go_on_outputs : Outcome → (Value → Spent Outputs) → Spent Outputs
go_on_outputs (Gives value) go = go value
go_on_outputs (Raises exn carried) go = spends nothing (Throws exn carried)

abbrev pub then_outputs : Spent Outcome → (Value → Spent Outputs) → Spent Outputs
then_outputs spent go = after spent.cost (go_on_outputs spent.outcome go)

-- the other outputs, above the value
abbrev pub outs_after : Outcome → Spent Outputs → Spent Outputs
outs_after (Gives value) rest = spends (above 1 rest.cost) (after_outputs (Some value ∷ []) rest.outcome)
outs_after (Raises exn carried) rest = spends nothing (Throws exn carried)

-- outputs from left to right, each above the words of those before it; `*` takes nothing
abbrev pub outs_spent : List (Option Spending) → List Value → Spent Outputs
outs_spent [] env = spends nothing (Asserts [])
outs_spent (None ∷ outs) env = spends (outs_spent outs env).cost (after_outputs (None ∷ []) (outs_spent outs env).outcome)
outs_spent (Some out ∷ outs) env = after (out env).cost (outs_after (out env).outcome (outs_spent outs env))

-- the instruction that hands the outputs over, unless an exception was raised
abbrev pub finish : Outputs → Cost
finish (Asserts outs) = instructions 1
finish (Throws exn carried) = nothing

abbrev pub finished : Spent Outputs → Spent Outputs
finished spent = spends (both spent.cost (finish spent.outcome)) spent.outcome

-- a pattern's values are put on the stack, and then comes the result
abbrev pub result_taken : (List Value → Spent Outputs) → List Value → Spent Outputs
result_taken go values = over (length values) (after (instructions (length values)) (go values))

-- the first alternative whose pattern the value matches, after the tests of those before it
abbrev pub first_result : List (PatC × ResultSpending) → Value → ResultSpending
first_result [] value env = spends (instructions 1) (Throws NO_CASE None)
first_result (arm ∷ arms) value env =
    after (instructions (tries arm.0 value).tests)
    (on_match (matches arm.0 value) (result_taken (λ values. arm.1 (env ++ values))) (first_result arms value env))

-- an exception without outputs
abbrev pub thrown_spent : Spent Outcome → Spent Outputs
thrown_spent spent = spends spent.cost (thrown spent.outcome)

-- one level of a result, case by case as in its meaning and in its bound
abbrev pub result_spent_step : (Expr → Spending) → Res-F ResultSpending → ResultSpending
result_spent_step spending (Res-F.Outs outs) env = finished (outs_spent (map (option_map spending) outs) env)
result_spent_step spending (Res-F.If test when_true when_false) env =
    then_outputs (spending test env) (λ v. after (instructions 1) (if word_of_value v == 0 then when_false env else when_true env))
result_spent_step spending (Res-F.Case part forms arms) env = then_outputs (spending part env) (λ v. over 1 (first_result arms v env))
result_spent_step spending (Res-F.Let part body) env = then_outputs (spending part env) (λ v. over 1 (body (env ++ v ∷ [])))
result_spent_step spending (Res-F.Raise exn part) env = thrown_spent (raise_spent exn (option_map spending part) env)

abbrev pub result_spent_with : (Expr → Spending) → Res → ResultSpending
result_spent_with spending = fold-Res ResultSpending (result_spent_step spending)

-- what an expression comes to and takes in the core
abbrev pub spending_in : Core → Expr → Spending
spending_in core e env = spent core env e

-- what a result comes to and takes in the core
abbrev pub result_spent : Core → List Value → Res → Spent Outputs
result_spent core env res = result_spent_with (spending_in core) res env

-- the outputs of the handler: it begins with what the exception carries as the only word
abbrev pub handler_spent : Core → Option Value → HandC → Spent Outputs
handler_spent core carried handler =
    over 1 (over (handler_variables handler)
    (after (instructions (handler_variables handler)) (result_spent core (handler_env handler carried) handler.result)))

-- nothing is taken where there is no handler
abbrev pub handled_by : Core → Option Value → Option HandC → Spent (List (Option Value))
handled_by core carried None = spends nothing []
handled_by core carried (Some handler) = spends (handler_spent core carried handler).cost (outputs_or_none (handler_spent core carried handler).outcome)

-- the outputs of a rule's result, or those of the handler for the exception that it raises
abbrev pub handled : Core → List HandC → Outputs → Spent (List (Option Value))
handled core handlers (Asserts outs) = spends nothing outs
handled core handlers (Throws exn carried) = handled_by core carried (find (λ (handler : HandC). handler.exn == exn) handlers)

-- the value that is built at a position: that of an input with a pattern
abbrev pub built_value : InPat → Option Value → List Value
built_value (Built pattern) (Some value) = value ∷ []
built_value _ input = []

-- the values that are built, position by position
abbrev pub built_values : List InPat → List (Option Value) → List Value
built_values [] ins = []
built_values (pat ∷ pats) [] = []
built_values (pat ∷ pats) (input ∷ ins) = built_value pat input ++ built_values pats ins

-- the words that build the input at a position
abbrev pub position_built : InPat → Option Value → ℕ
position_built (Built pattern) (Some value) = built_of value
position_built _ input = 0

-- the same for all positions
abbrev pub inputs_built : List InPat → List (Option Value) → ℕ
inputs_built [] ins = 0
inputs_built (pat ∷ pats) [] = 0
inputs_built (pat ∷ pats) (input ∷ ins) = position_built pat input + inputs_built pats ins

-- what the result of a rule that fits comes to and takes, with the inputs that are built before it
abbrev pub rule_result_spent : Core → List (Option Value) → RuleC → Spent Outputs
rule_result_spent core ins rule =
    after (objects (inputs_built rule.pats ins))
    (over (length (built_patterns rule.pats)) (result_taken (λ values. result_spent core values rule.result) (bound rule.pats ins)))

-- what a rule that fits gives and takes, with the handler that follows if its result raises
abbrev pub rule_spent : Core → BoxC → List (Option Value) → RuleC → Spent (List (Option Value))
rule_spent core b ins rule =
    after (rule_result_spent core ins rule).cost (handled core b.handlers (rule_result_spent core ins rule).outcome)

-- what it takes, if there is a rule that fits
abbrev pub cost_if_fits : Option (Spent (List (Option Value))) → Cost
cost_if_fits None = nothing
cost_if_fits (Some firing) = firing.cost

-- what the first rule in the order that fits gives and takes
abbrev pub fire_spent : Core → BoxC → List ℕ → List (Option Value) → Option (Spent (List (Option Value)))
fire_spent core b order ins =
    option_and_then (λ number. option_map (rule_spent core b ins) (slice_get b.rules number))
    (find (λ number. rule_fits ins (slice_get b.rules number)) order)

-- what it takes to fire the box: nothing where no rule fits
abbrev pub box_spent : Core → BoxC → List ℕ → List (Option Value) → Cost
box_spent core b order ins = cost_if_fits (fire_spent core b order ins)
