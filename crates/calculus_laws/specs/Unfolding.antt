-- Unfold: the first call in a rule's result to a function whose one equation takes its arguments as they are becomes a `let`
-- for each argument, in order, around the body of that equation.
use Rattle.std.specs.Prelude.{ℕ, ◌+◌, ◌-◌, ◌==◌, nat_le, nat_lt, ◌&&◌, Bool, true, false, List, [], ◌∷◌, length, map, sum, Option, Some, None, if◌then◌else◌, slice_get, slice_set}
use Rattle.std.specs.List.{list_all, slice_index_or}
use Rattle.std.specs.Option.{option_and_then, option_map, option_or}
use Rattle.hume_model.specs.declared.core_tree.PatC.{PatC, fold-PatC, out-PatC}
use Rattle.hume_model.specs.declared.core_tree.PatC.TheOpen.{PatC-F}
use Rattle.hume_model.specs.declared.core_tree.Expr.{Expr, fold-Expr, roll-Expr, map-Expr}
use Rattle.hume_model.specs.declared.core_tree.Expr.TheOpen.{Expr-F}
use Rattle.hume_model.specs.declared.core_tree.Expr.TheVariants as expr
use Rattle.hume_model.specs.declared.core_tree.Res.{Res, fold-Res, roll-Res, map-Res}
use Rattle.hume_model.specs.declared.core_tree.Res.TheOpen.{Res-F}
use Rattle.hume_model.specs.declared.core_tree.Res.TheVariants as res
use Rattle.hume_model.specs.declared.core_tree.EqC.{EqC}
use Rattle.hume_model.specs.declared.core_tree.FunC.{FunC}
use Rattle.hume_model.specs.declared.core_tree.RuleC.{RuleC}
use Rattle.hume_model.specs.declared.core_tree.BoxC.{BoxC}
use Rattle.hume_model.specs.declared.core_tree.Core.{Core}
use Rattle.calculus_laws.specs.declared.step.TheConstants.{MAX_RESULT_DEPTH, MAX_RESULT_PARTS}
use Rattle.calculus_laws.specs.declared.step.CalcError.{CalcError}
use Rattle.calculus_laws.specs.declared.step.CalcError.TheVariants.{CannotUnfold}
use Rattle.calculus_laws.specs.Boxes.{with_box}
use Rattle.calculus_laws.specs.Depth.{result_depth}
use Rattle.calculus_laws.specs.Naming.{variables}
use Rattle.calculus_laws.specs.Parts.{result_parts}

-- one level of an expression whose variables get other numbers
abbrev pub renumber_layer : (ℕ → ℕ) → Expr-F Expr → Expr-F Expr
renumber_layer numbers (Expr-F.Var number) = Expr-F.Var (numbers number)
renumber_layer numbers layer = layer

-- the expression with these numbers for its variables
abbrev pub renumbered : (ℕ → ℕ) → Expr → Expr
renumbered numbers = fold-Expr Expr (λ layer. roll-Expr (renumber_layer numbers layer))

-- the first of the variables have these numbers, and those that are bound further inside follow from a number on
abbrev pub numbers_from : List ℕ → ℕ → ℕ → ℕ
numbers_from first later number = if nat_lt number (length first) then slice_index_or first number 0 else later + (number - length first)

-- the variables in scope keep their numbers, and those that are bound further inside move on
abbrev pub moved_on : ℕ → ℕ → ℕ → ℕ
moved_on scope count number = if nat_lt number scope then number else number + count

-- the pattern takes any value: a variable or `_`
abbrev pub takes_any : PatC-F PatC → Bool
takes_any PatC-F.Var = true
takes_any PatC-F.Any = true
takes_any _ = false

-- the number of a variable comes before those of the patterns that follow
abbrev pub number_of_pattern : PatC-F PatC → ℕ → List ℕ → List ℕ
number_of_pattern PatC-F.Var number numbers = number ∷ numbers
number_of_pattern _ number numbers = numbers

-- the numbers of the variables of such patterns, where each pattern's value has the next number
abbrev pub pattern_numbers : ℕ → List PatC → List ℕ
pattern_numbers number [] = []
pattern_numbers number (pat ∷ pats) = number_of_pattern (out-PatC pat) number (pattern_numbers (number + 1) pats)

-- a `let` for each argument around the body; `count` of them stand around these already
abbrev pub lets_around : ℕ → ℕ → List Expr → Expr → Expr
lets_around scope count [] body = body
lets_around scope count (arg ∷ args) body = expr.Let (renumbered (moved_on scope count) arg) (lets_around scope (count + 1) args body)

-- the call of an equation with these arguments, where so many variables are in scope
abbrev pub equation_unfolded : EqC → List Expr → ℕ → Expr
equation_unfolded equation args scope =
    lets_around scope 0 args (renumbered (numbers_from (pattern_numbers scope equation.pats) (scope + length equation.pats)) equation.body)

-- the equation takes the arguments as they are
abbrev pub takes_all : EqC → List Expr → Bool
takes_all equation args = list_all (λ pat. takes_any (out-PatC pat)) equation.pats && (length args == length equation.pats)

-- the call of a function with that one equation
abbrev pub only_equation : List EqC → List Expr → ℕ → Option Expr
only_equation (equation ∷ []) args scope = if takes_all equation args then Some (equation_unfolded equation args scope) else None
only_equation _ args scope = None

-- the call of a function
abbrev pub call_unfolded : Core → ℕ → List Expr → ℕ → Option Expr
call_unfolded core number args scope = option_and_then (λ (function : FunC). only_equation function.equations args scope) (slice_get core.funs number)

-- how many variables a pattern has, by those of its parts
abbrev pub variables_step : PatC-F ℕ → ℕ
variables_step PatC-F.Var = 1
variables_step PatC-F.Any = 0
variables_step (PatC-F.Word word) = 0
variables_step (PatC-F.Con place parts) = sum parts
variables_step (PatC-F.Tuple parts) = sum parts

-- how many variables a pattern has
abbrev pub variables_in : PatC → ℕ
variables_in = fold-PatC ℕ variables_step

-- an expression, and what it becomes where so many variables are in scope, if there is such a call in it
pub record Looked (X : Type 0) : Type 0 where
  pub tree : X
  pub unfolded : ℕ → Option X

-- the first part that has such a call
abbrev pub parts_unfolded : List (Looked Expr) → ℕ → Option (List Expr)
parts_unfolded [] scope = None
parts_unfolded (part ∷ parts) scope =
    option_or (option_map (λ e. e ∷ map (λ (other : Looked Expr). other.tree) parts) (part.unfolded scope))
    (option_map (λ es. part.tree ∷ es) (parts_unfolded parts scope))

-- the first alternative that has one; its pattern's variables are in scope
abbrev pub arms_unfolded : {X : Type 0} → List (PatC × Looked X) → ℕ → Option (List (PatC × X))
arms_unfolded [] scope = None
arms_unfolded (arm ∷ arms) scope =
    option_or (option_map (λ x. (arm.0, x) ∷ map (λ other. (other.0, other.1.tree)) arms) (arm.1.unfolded (scope + variables_in arm.0)))
    (option_map (λ others. (arm.0, arm.1.tree) ∷ others) (arms_unfolded arms scope))

-- One level of an expression, with what becomes of its parts in their places: a call comes before its arguments, and parts from
-- left to right.
abbrev pub unfold_step : Core → Expr-F (Looked Expr) → ℕ → Option Expr
unfold_step core (Expr-F.Word word) scope = None
unfold_step core (Expr-F.Var number) scope = None
unfold_step core (Expr-F.Con place parts) scope = option_map (expr.Con place) (parts_unfolded parts scope)
unfold_step core (Expr-F.Tuple parts) scope = option_map expr.Tuple (parts_unfolded parts scope)
unfold_step core (Expr-F.Vect parts) scope = option_map expr.Vect (parts_unfolded parts scope)
unfold_step core (Expr-F.Prim op ty parts) scope = option_map (expr.Prim op ty) (parts_unfolded parts scope)
unfold_step core (Expr-F.Index count vector place) scope =
    option_or (option_map (λ e. expr.Index count e place.tree) (vector.unfolded scope)) (option_map (expr.Index count vector.tree) (place.unfolded scope))
unfold_step core (Expr-F.Update count vector place item) scope =
    option_or (option_map (λ e. expr.Update count e place.tree item.tree) (vector.unfolded scope))
    (option_or (option_map (λ e. expr.Update count vector.tree e item.tree) (place.unfolded scope))
    (option_map (expr.Update count vector.tree place.tree) (item.unfolded scope)))
unfold_step core (Expr-F.If test when_true when_false) scope =
    option_or (option_map (λ e. expr.If e when_true.tree when_false.tree) (test.unfolded scope))
    (option_or (option_map (λ e. expr.If test.tree e when_false.tree) (when_true.unfolded scope))
    (option_map (expr.If test.tree when_true.tree) (when_false.unfolded scope)))
unfold_step core (Expr-F.Case part forms arms) scope =
    option_or (option_map (λ e. expr.Case e forms (map (λ arm. (arm.0, arm.1.tree)) arms)) (part.unfolded scope))
    (option_map (expr.Case part.tree forms) (arms_unfolded arms scope))
unfold_step core (Expr-F.Let part body) scope =
    option_or (option_map (λ e. expr.Let e body.tree) (part.unfolded scope)) (option_map (expr.Let part.tree) (body.unfolded (scope + 1)))
unfold_step core (Expr-F.Call function parts) scope =
    option_or (call_unfolded core function (map (λ (part : Looked Expr). part.tree) parts) scope)
    (option_map (expr.Call function) (parts_unfolded parts scope))
unfold_step core (Expr-F.Raise exn None) scope = None
unfold_step core (Expr-F.Raise exn (Some part)) scope = option_map (λ e. expr.Raise exn (Some e)) (part.unfolded scope)

-- one level with the tree itself
abbrev pub look_step : Core → Expr-F (Looked Expr) → Looked Expr
look_step core layer = record {
  tree = roll-Expr (map-Expr (Looked Expr) Expr (λ part. part.tree) layer);
  unfolded = unfold_step core layer;
}

-- an expression and what it becomes
abbrev pub looked : Core → Expr → Looked Expr
looked core = fold-Expr (Looked Expr) (look_step core)

-- the first output that has such a call
abbrev pub outs_unfolded : (Expr → Looked Expr) → List (Option Expr) → ℕ → Option (List (Option Expr))
outs_unfolded look [] scope = None
outs_unfolded look (None ∷ outs) scope = option_map (λ others. None ∷ others) (outs_unfolded look outs scope)
outs_unfolded look (Some e ∷ outs) scope =
    option_or (option_map (λ new. Some new ∷ outs) ((look e).unfolded scope)) (option_map (λ others. Some e ∷ others) (outs_unfolded look outs scope))

-- one level of a result
abbrev pub unfold_result_step : (Expr → Looked Expr) → Res-F (Looked Res) → ℕ → Option Res
unfold_result_step look (Res-F.Outs outs) scope = option_map res.Outs (outs_unfolded look outs scope)
unfold_result_step look (Res-F.If test when_true when_false) scope =
    option_or (option_map (λ e. res.If e when_true.tree when_false.tree) ((look test).unfolded scope))
    (option_or (option_map (λ r. res.If test r when_false.tree) (when_true.unfolded scope))
    (option_map (res.If test when_true.tree) (when_false.unfolded scope)))
unfold_result_step look (Res-F.Case part forms arms) scope =
    option_or (option_map (λ e. res.Case e forms (map (λ arm. (arm.0, arm.1.tree)) arms)) ((look part).unfolded scope))
    (option_map (res.Case part forms) (arms_unfolded arms scope))
unfold_result_step look (Res-F.Let part body) scope =
    option_or (option_map (λ e. res.Let e body.tree) ((look part).unfolded scope)) (option_map (res.Let part) (body.unfolded (scope + 1)))
unfold_result_step look (Res-F.Raise exn None) scope = None
unfold_result_step look (Res-F.Raise exn (Some part)) scope = option_map (λ e. res.Raise exn (Some e)) ((look part).unfolded scope)

-- one level with the result itself
abbrev pub look_result_step : (Expr → Looked Expr) → Res-F (Looked Res) → Looked Res
look_result_step look layer = record {
  tree = roll-Res (map-Res (Looked Res) Res (λ part. part.tree) layer);
  unfolded = unfold_result_step look layer;
}

-- a result and what it becomes
abbrev pub looked_result : Core → Res → Looked Res
looked_result core = fold-Res (Looked Res) (look_result_step (looked core))

-- what the result of a rule with so many variables becomes, if there is such a call in it
abbrev pub result_unfolded : Core → ℕ → Res → Option Res
result_unfolded core scope result = (looked_result core result).unfolded scope

-- the rule with such a call unfolded, if there is one
abbrev pub unfolded_rule : Core → BoxC → RuleC → Option RuleC
unfolded_rule core b rule =
    option_map (λ result. record rule { result = result }) (result_unfolded core (length (variables core.types b rule)) rule.result)

-- the rule of the number, unfolded
abbrev pub unfolded_at : Core → BoxC → ℕ → Option RuleC
unfolded_at core b number = option_and_then (unfolded_rule core b) (slice_get b.rules number)

-- the box with another rule in a place
abbrev pub with_rule : ℕ → RuleC → BoxC → BoxC
with_rule number rule b = record b { rules = slice_set b.rules number rule }

-- the core in which the rule is the unfolded one, if there is one
abbrev pub unfolded_core : Core → ℕ → ℕ → BoxC → Option RuleC → Core
unfolded_core core node number b None = core
unfolded_core core node number b (Some new) = with_box core node (with_rule number new b)

-- the result is no deeper than is allowed, and has no more parts
abbrev pub has_room : Res → Bool
has_room result = nat_le (result_depth result) MAX_RESULT_DEPTH && nat_le (result_parts result) MAX_RESULT_PARTS

-- a rule may not be unfolded where there is no such call in it, or where its result would be too deep or have too many parts
abbrev pub unfold_refusal : Option RuleC → Option CalcError
unfold_refusal None = Some CannotUnfold
unfold_refusal (Some new) = if has_room new.result then None else Some CannotUnfold
