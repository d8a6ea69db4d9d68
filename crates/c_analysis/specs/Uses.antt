-- Which variables an expression uses.
use Rattle.std.specs.Prelude.{◌≡◌, ℕ, ◌+◌, ◌<◌, ◌==◌, nat_lt, not, ◌&&◌, ◌||◌, Bool, true, false, List, [], ◌∷◌, length, Option, Some, None, slice_get}
use Rattle.std.specs.List.{list_any, range_with_len}
use Rattle.hume_base.specs.declared.types.Ty.{Ty}
use Rattle.hume_model.specs.declared.core_tree.PatC.{PatC}
use Rattle.typed_core.specs.declared.typed_tree.TypedExpr.{TypedExpr}
use Rattle.typed_core.specs.declared.typed_tree.TypedExpr.TheOpen.{TypedExpr-F}
use Rattle.c_analysis.specs.declared.setting.Called.{Called}
use Rattle.c_analysis.specs.Needs.{needs_test, variables}
use Rattle.c_analysis.specs.Plain.{uses_argument}
use Rattle.c_analysis.specs.Raises.{arms_complete, may_raise}
use Rattle.c_analysis.specs.Seen.{Seen, by_forms}
use Rattle.c_analysis.specs.Targets.{Target}

-- whether a variable is used, of those numbers below that of the variables in scope
abbrev pub Uses : Type 0
Uses = ℕ → ℕ → Bool

abbrev pub some_use : ℕ → ℕ → List (Seen Uses) → Bool
some_use count number [] = false
some_use count number (first ∷ others) = first.value count number || some_use count number others

-- one of the variables that a pattern brings is used
abbrev pub uses_bound : Uses → ℕ → ℕ → Bool
uses_bound uses count bound = list_any (uses (count + bound)) (range_with_len count bound)

-- Whether an object is looked at: by a test, or by a variable that is used. Arms behind one that matches all values are never written.
abbrev pub looked_at : Target → Ty → Bool → ℕ → List (PatC × Seen Uses) → Bool
looked_at t of complete count [] = false
looked_at t of complete count (arm ∷ []) =
    uses_bound arm.1.value count (variables arm.0) || (needs_test t of arm.0 && not complete)
looked_at t of complete count (arm ∷ next ∷ others) =
    uses_bound arm.1.value count (variables arm.0) || needs_test t of arm.0

-- an arm that is written uses the variable
abbrev pub arms_use : Target → Ty → ℕ → ℕ → List (PatC × Seen Uses) → Bool
arms_use t of count number [] = false
arms_use t of count number (arm ∷ others) =
    arm.1.value (count + variables arm.0) number || (needs_test t of arm.0 && arms_use t of count number others)

abbrev pub call_uses : Option Called → ℕ → Bool
call_uses None place = true
call_uses (Some called) place = uses_argument called place

-- An argument that the function doesn't use is evaluated only for what it may raise.
abbrev pub arguments_use : Target → Option Called → ℕ → ℕ → ℕ → List (Seen Uses) → Bool
arguments_use t called place count number [] = false
arguments_use t called place count number (first ∷ others) =
    ((call_uses called place || may_raise t first.tree) && first.value count number) || arguments_use t called (place + 1) count number others

abbrev pub uses_step : Target → TypedExpr-F (Seen Uses) → Uses
uses_step t (TypedExpr-F.Word word) count number = false
uses_step t (TypedExpr-F.Var other) count number = other == number
uses_step t (TypedExpr-F.Con place parts) count number = some_use count number parts
uses_step t (TypedExpr-F.Tuple parts) count number = some_use count number parts
uses_step t (TypedExpr-F.Vect parts) count number = some_use count number parts
uses_step t (TypedExpr-F.Prim op of parts) count number = some_use count number parts
uses_step t (TypedExpr-F.Convert from to part) count number = part.value count number
uses_step t (TypedExpr-F.Index of place_ty vector place) count number = vector.value count number || place.value count number
uses_step t (TypedExpr-F.Update of place_ty vector place item) count number =
    vector.value count number || place.value count number || item.value count number
uses_step t (TypedExpr-F.If test when_true when_false) count number = test.value count number || when_true.value count number || when_false.value count number
uses_step t (TypedExpr-F.Case of part arms) count number =
    arms_use t of count number arms
    || ((looked_at t of (arms_complete t of arms) count arms || may_raise t part.tree) && part.value count number)
uses_step t (TypedExpr-F.Let of part body) count number =
    body.value (count + 1) number || ((body.value (count + 1) count || may_raise t part.tree) && part.value count number)
uses_step t (TypedExpr-F.Call function parts) count number = arguments_use t (slice_get t.called function) 0 count number parts
uses_step t (TypedExpr-F.Raise exn None) count number = false
uses_step t (TypedExpr-F.Raise exn (Some part)) count number = part.value count number

-- whether an expression among so many variables uses the one of the number
abbrev pub uses : Target → TypedExpr → Uses
uses t = by_forms (uses_step t)

-- the marks of variables from a number on, with those of the numbers that are told set
abbrev pub marked_from : ℕ → (ℕ → Bool) → List Bool → List Bool
marked_from number is_told [] = []
marked_from number is_told (mark ∷ marks) = (mark || is_told number) ∷ marked_from (number + 1) is_told marks

abbrev pub marked : (ℕ → Bool) → List Bool → List Bool
marked is_told marks = marked_from 0 is_told marks
