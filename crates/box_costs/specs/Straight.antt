-- Where an evaluation has one way alone: then it takes just its bound.
use Rattle.std.specs.Prelude.{◌≡◌, ℕ, zero, suc, ◌==◌, ◌&&◌, Bool, true, false, List, [], ◌∷◌, length, Option, Some, None, if◌then◌else◌, slice_get}
use Rattle.std.specs.List.{list_all}
use Rattle.hume_base.specs.declared.types.Ty.{Ty, fold-Ty}
use Rattle.hume_base.specs.declared.types.Ty.TheOpen.{Ty-F}
use Rattle.hume_base.specs.declared.types.ConDef.{ConDef}
use Rattle.hume_base.specs.declared.types.SumDef.{SumDef}
use Rattle.hume_base.specs.declared.types.Types.{Types}
use Rattle.hume_model.specs.declared.core_tree.Expr.{Expr, fold-Expr}
use Rattle.hume_model.specs.declared.core_tree.Expr.TheOpen.{Expr-F}
use Rattle.hume_model.specs.declared.core_tree.Res.{Res, fold-Res}
use Rattle.hume_model.specs.declared.core_tree.Res.TheOpen.{Res-F}
use Rattle.hume_model.specs.declared.core_tree.EqC.{EqC}
use Rattle.hume_model.specs.declared.core_tree.FunC.{FunC}
use Rattle.hume_model.specs.declared.core_tree.InPat.{InPat}
use Rattle.hume_model.specs.declared.core_tree.InPat.TheVariants.{Built}
use Rattle.hume_model.specs.declared.core_tree.RuleC.{RuleC}
use Rattle.hume_model.specs.declared.core_tree.BoxC.{BoxC}
use Rattle.hume_model.specs.declared.core_tree.Core.{Core}
use Rattle.hume_model.specs.BoxTyping.{port_types}
use Rattle.hume_model.specs.Calls.{all_true, if_there}
use Rattle.hume_model.specs.Raising.{result_may_raise}

-- one level of an expression: no `if` and no `case`, and straight parts; `called` says of each function whether it is straight
abbrev pub straight_step : (ℕ → Bool) → Expr-F Bool → Bool
straight_step called (Expr-F.Word word) = true
straight_step called (Expr-F.Var number) = true
straight_step called (Expr-F.Con place parts) = all_true parts
straight_step called (Expr-F.Tuple parts) = all_true parts
straight_step called (Expr-F.Vect parts) = all_true parts
straight_step called (Expr-F.Prim op ty parts) = all_true parts
straight_step called (Expr-F.Index count vector place) = vector && place
straight_step called (Expr-F.Update count vector place item) = vector && (place && item)
straight_step called (Expr-F.If test when_true when_false) = false
straight_step called (Expr-F.Case part forms arms) = false
straight_step called (Expr-F.Let part body) = part && body
straight_step called (Expr-F.Call function parts) = called function && all_true parts
straight_step called (Expr-F.Raise exn part) = if_there part

abbrev pub is_straight_with : (ℕ → Bool) → Expr → Bool
is_straight_with called = fold-Expr Bool (straight_step called)

-- there is one equation, and its body is straight
abbrev pub is_one_straight : (Expr → Bool) → List EqC → Bool
is_one_straight straight [] = false
is_one_straight straight (equation ∷ []) = straight equation.body
is_one_straight straight (equation ∷ other ∷ more) = false

abbrev pub is_straight_function : (Expr → Bool) → Option FunC → Bool
is_straight_function straight None = false
is_straight_function straight (Some function) = is_one_straight straight function.equations

-- each function of a number below the bound, which calls only functions of smaller numbers
unfoldable pub straight_below : Core → ℕ → ℕ → Bool
straight_below core zero function = false
straight_below core (suc bound) function =
    if function == bound then is_straight_function (is_straight_with (straight_below core bound)) (slice_get core.funs bound)
    else straight_below core bound function

-- the expression of a program has no `if` and no `case`, nor has any function that it calls, which have one equation each
abbrev pub is_straight : Core → Expr → Bool
is_straight core = is_straight_with (straight_below core (length core.funs))

-- an output that is there is straight
abbrev pub is_straight_out : (Expr → Bool) → Option Expr → Bool
is_straight_out straight None = true
is_straight_out straight (Some e) = straight e

-- the same of a result
abbrev pub result_straight_step : (Expr → Bool) → Res-F Bool → Bool
result_straight_step straight (Res-F.Outs outs) = list_all (is_straight_out straight) outs
result_straight_step straight (Res-F.If test when_true when_false) = false
result_straight_step straight (Res-F.Case part forms arms) = false
result_straight_step straight (Res-F.Let part body) = straight part && body
result_straight_step straight (Res-F.Raise exn part) = is_straight_out straight part

abbrev pub is_straight_result : Core → Res → Bool
is_straight_result core = fold-Res Bool (result_straight_step (is_straight core))

-- one level of a type: it holds no data type of two or more constructors; `named` says so of each data type
abbrev pub one_form_step : (ℕ → Bool) → Ty-F Bool → Bool
one_form_step named Ty-F.Bool = true
one_form_step named Ty-F.Char = true
one_form_step named (Ty-F.Int bits) = true
one_form_step named (Ty-F.Nat bits) = true
one_form_step named (Ty-F.Tuple parts) = all_true parts
one_form_step named (Ty-F.Vector count item) = item
one_form_step named (Ty-F.Named number) = named number

abbrev pub has_one_form_with : (ℕ → Bool) → Ty → Bool
has_one_form_with named = fold-Ty Bool (one_form_step named)

-- there are no two constructors, and the fields of the one are of such types
abbrev pub is_one_con : (Ty → Bool) → List ConDef → Bool
is_one_con test [] = true
is_one_con test (con ∷ []) = list_all test con.fields
is_one_con test (con ∷ other ∷ more) = false

abbrev pub is_one_form_sum : (Ty → Bool) → Option SumDef → Bool
is_one_form_sum test None = true
is_one_form_sum test (Some sum_type) = is_one_con test sum_type.cons

-- each data type of a number below the bound, which holds only data types of smaller numbers
unfoldable pub named_one_form : Types → ℕ → ℕ → Bool
named_one_form types zero number = true
named_one_form types (suc bound) number =
    if number == bound then is_one_form_sum (has_one_form_with (named_one_form types bound)) (slice_get types.sums bound)
    else named_one_form types bound number

-- all values of the type are built alike
abbrev pub has_one_form : Types → Ty → Bool
has_one_form types = has_one_form_with (named_one_form types (length types.sums))

-- the input of the position is built, if it is, of such a type
abbrev pub is_alike_position : Types → Ty → InPat → Bool
is_alike_position types ty (Built pattern) = has_one_form types ty
is_alike_position types ty _ = true

abbrev pub are_alike_positions : Types → List Ty → List InPat → Bool
are_alike_positions types [] pats = true
are_alike_positions types (ty ∷ tys) [] = true
are_alike_positions types (ty ∷ tys) (pat ∷ pats) = is_alike_position types ty pat && are_alike_positions types tys pats

-- nothing is chosen in the rule: its result is straight and may raise nothing, and its inputs are built alike
pub record HasOneWay (core : Core) (b : BoxC) (rule : RuleC) : Type 0 where
  pub straight : is_straight_result core rule.result ≡ true
  pub silent : (exn : ℕ) → result_may_raise core exn rule.result ≡ false
  pub inputs : are_alike_positions core.types (port_types b.ins) rule.pats ≡ true
