-- The most that an expression, a result, a rule and a box may take, by their forms alone.
use Rattle.std.specs.Prelude.{ℕ, zero, suc, ◌+◌, ◌==◌, List, [], ◌∷◌, map, length, Option, Some, None, if◌then◌else◌, slice_get}
use Rattle.std.specs.List.{filter_map}
use Rattle.std.specs.Option.{option_map}
use Rattle.hume_base.specs.declared.types.Ty.{Ty}
use Rattle.hume_base.specs.declared.types.Types.{Types}
use Rattle.hume_model.specs.declared.core_tree.PatC.{PatC}
use Rattle.hume_model.specs.declared.core_tree.Expr.{Expr, fold-Expr}
use Rattle.hume_model.specs.declared.core_tree.Expr.TheOpen.{Expr-F}
use Rattle.hume_model.specs.declared.core_tree.Res.{Res, fold-Res}
use Rattle.hume_model.specs.declared.core_tree.Res.TheOpen.{Res-F}
use Rattle.hume_model.specs.declared.core_tree.EqC.{EqC}
use Rattle.hume_model.specs.declared.core_tree.FunC.{FunC}
use Rattle.hume_model.specs.declared.core_tree.InPat.{InPat}
use Rattle.hume_model.specs.declared.core_tree.InPat.TheVariants.{Star, AnyStar, Any, Built}
use Rattle.hume_model.specs.declared.core_tree.RuleC.{RuleC}
use Rattle.hume_model.specs.declared.core_tree.HandC.{HandC}
use Rattle.hume_model.specs.declared.core_tree.BoxC.{BoxC}
use Rattle.hume_model.specs.declared.core_tree.Core.{Core}
use Rattle.hume_model.specs.BoxTyping.{port_types}
use Rattle.hume_model.specs.Raising.{result_may_raise}
use Rattle.box_costs.specs.declared.cost.Cost.{Cost}
use Rattle.box_costs.specs.Costs.{nothing, instructions, objects, pushed, made, above, both, either, any_of, in_order, Way, one_way, with_variables}
use Rattle.box_costs.specs.PatternTests.{variables_of, variables_of_all, tests_of, tests_of_all}
use Rattle.box_costs.specs.Building.{build_of}

-- an alternative: its pattern's tests, and then its variables and its branch
abbrev pub arm_way : ℕ → PatC × Cost → Way
arm_way ending arm = record { tests = tests_of arm.0; taken = with_variables (variables_of arm.0) ending arm.1 }

-- an exception is raised with what it carries, or with a word for nothing
abbrev pub raise_bound : Option Cost → Cost
raise_bound None = both pushed (instructions 1)
raise_bound (Some part) = both part (instructions 1)

-- One level of an expression, with the bounds of its parts in their places; `called` has the bound of each function. Behind
-- the first branch of an `if` stands a jump, behind a `let` body the instruction that drops the variable, and behind an
-- alternative both.
abbrev pub bound_step : (ℕ → Cost) → Expr-F Cost → Cost
bound_step called (Expr-F.Word word) = pushed
bound_step called (Expr-F.Var number) = pushed
bound_step called (Expr-F.Con place parts) = both (in_order parts) (made (length parts))
bound_step called (Expr-F.Tuple parts) = both (in_order parts) (made (length parts))
bound_step called (Expr-F.Vect parts) = both (in_order parts) (made (length parts))
bound_step called (Expr-F.Prim op ty parts) = both (in_order parts) pushed
bound_step called (Expr-F.Index count vector place) = both (in_order (vector ∷ place ∷ [])) pushed
bound_step called (Expr-F.Update count vector place item) = both (in_order (vector ∷ place ∷ item ∷ [])) (made count)
bound_step called (Expr-F.If test when_true when_false) = both test (both (instructions 1) (either (both when_true (instructions 1)) when_false))
bound_step called (Expr-F.Case part forms arms) = both part (above 1 (one_way (map (arm_way 2) arms)))
bound_step called (Expr-F.Let part body) = both part (above 1 (both body (instructions 1)))
bound_step called (Expr-F.Call function parts) = both (in_order parts) (above (length parts + 2) (both (instructions 1) (called function)))
bound_step called (Expr-F.Raise exn part) = raise_bound part

-- the bound of an expression, by those of functions
abbrev pub bound_with : (ℕ → Cost) → Expr → Cost
bound_with called = fold-Expr Cost (bound_step called)

-- an equation: its patterns' tests, and then its variables, its body and the return
abbrev pub equation_way : (Expr → Cost) → EqC → Way
equation_way bound equation = record { tests = tests_of_all equation.pats; taken = with_variables (variables_of_all equation.pats) 1 (bound equation.body) }

-- a function, by the bounds of expressions; one that isn't there raises at once, as one without equations
abbrev pub function_bound : (Expr → Cost) → Option FunC → Cost
function_bound bound None = one_way []
function_bound bound (Some function) = one_way (map (equation_way bound) function.equations)

-- each function of a number below the bound, which calls only functions of smaller numbers
unfoldable pub bound_below : Core → ℕ → ℕ → Cost
bound_below core zero function = one_way []
bound_below core (suc bound) function =
    if function == bound then function_bound (bound_with (bound_below core bound)) (slice_get core.funs bound) else bound_below core bound function

-- the bound of an expression of a program
abbrev pub expression_bound : Core → Expr → Cost
expression_bound core = bound_with (bound_below core (length core.funs))

-- the outputs that are there
abbrev pub given_outs : List (Option Expr) → List Expr
given_outs outs = filter_map (λ out. out) outs

-- One level of a result, with the bounds of its parts in their places. A branch ends the step, so that nothing stands behind it.
abbrev pub result_bound_step : (Expr → Cost) → Res-F Cost → Cost
result_bound_step bound (Res-F.Outs outs) = both (in_order (map bound (given_outs outs))) (instructions 1)
result_bound_step bound (Res-F.If test when_true when_false) = both (bound test) (both (instructions 1) (either when_true when_false))
result_bound_step bound (Res-F.Case part forms arms) = both (bound part) (above 1 (one_way (map (arm_way 0) arms)))
result_bound_step bound (Res-F.Let part body) = both (bound part) (above 1 body)
result_bound_step bound (Res-F.Raise exn part) = raise_bound (option_map bound part)

-- the bound of a result, by those of expressions
abbrev pub result_bound_with : (Expr → Cost) → Res → Cost
result_bound_with bound = fold-Res Cost (result_bound_step bound)

-- the bound of the result of a rule or a handler
abbrev pub result_bound : Core → Res → Cost
result_bound core = result_bound_with (expression_bound core)

-- how many variables a handler has
abbrev pub handler_variables : HandC → ℕ
handler_variables handler = if handler.bound then 1 else 0

-- a handler begins with what the exception carries as the only word
abbrev pub handler_bound : Core → HandC → Cost
handler_bound core handler = above 1 (with_variables (handler_variables handler) 0 (result_bound core handler.result))

-- the handler, if the result may raise its exception
abbrev pub handler_if_raised : Core → Res → HandC → Cost
handler_if_raised core result handler = if result_may_raise core handler.exn result then handler_bound core handler else nothing

-- the pattern of a position that builds its input
abbrev pub built_pattern : InPat → Option PatC
built_pattern Star = None
built_pattern AnyStar = None
built_pattern Any = None
built_pattern (Built pattern) = Some pattern

-- the patterns of all positions that build their inputs
abbrev pub built_patterns : List InPat → List PatC
built_patterns pats = filter_map built_pattern pats

-- the most words that build the input at a position
abbrev pub position_build : Types → Ty → InPat → ℕ
position_build types ty Star = 0
position_build types ty AnyStar = 0
position_build types ty Any = 0
position_build types ty (Built pattern) = build_of types ty

-- the same for all positions
abbrev pub inputs_build : Types → List Ty → List InPat → ℕ
inputs_build types [] pats = 0
inputs_build types (ty ∷ tys) [] = 0
inputs_build types (ty ∷ tys) (pat ∷ pats) = position_build types ty pat + inputs_build types tys pats

-- A rule: its inputs are built, the places of their objects stand below its variables, and then comes its result. If that
-- raises, the handler follows.
abbrev pub rule_bound : Core → BoxC → RuleC → Cost
rule_bound core b rule =
    both (both (objects (inputs_build core.types (port_types b.ins) rule.pats))
    (above (length (built_patterns rule.pats)) (with_variables (variables_of_all (built_patterns rule.pats)) 0 (result_bound core rule.result))))
    (any_of (map (handler_if_raised core rule.result) b.handlers))

-- the bound of a box: that of the dearest rule, each part by itself
abbrev pub box_bound : Core → BoxC → Cost
box_bound core b = any_of (map (rule_bound core b) b.rules)
