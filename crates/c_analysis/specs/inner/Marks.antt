-- How the marks of variables go from part to part of an expression, which sets those of the variables that it uses.
use Rattle.std.specs.Prelude.{ℕ, ◌+◌, not, ◌||◌, Bool, true, false, List, [], ◌∷◌, ◌++◌, length, take, drop, replicate, Option, Some, None, slice_get, slice_set, if◌then◌else◌}
use Rattle.std.specs.List.{list_any}
use Rattle.hume_base.specs.declared.types.Ty.{Ty}
use Rattle.hume_model.specs.declared.core_tree.PatC.{PatC}
use Rattle.typed_core.specs.declared.typed_tree.TypedExpr.{TypedExpr}
use Rattle.typed_core.specs.declared.typed_tree.TypedExpr.TheOpen.{TypedExpr-F}
use Rattle.c_analysis.specs.declared.setting.Called.{Called}
use Rattle.c_analysis.specs.Needs.{needs_test, variables}
use Rattle.c_analysis.specs.Raises.{arms_complete, may_raise}
use Rattle.c_analysis.specs.Seen.{Seen, by_forms, seen}
use Rattle.c_analysis.specs.Targets.{Target}
use Rattle.c_analysis.specs.Uses.{call_uses}

abbrev pub Marks : Type 0
Marks = List Bool → List Bool

-- the marks after the arms of a `case`, and whether its object is looked at
pub record Looked : Type 0 where
  pub marks : List Bool
  pub object : Bool

abbrev pub looked : List Bool → Bool → Looked
looked marks object = record { marks = marks; object = object }

abbrev pub parts_mark : List (Seen Marks) → Marks
parts_mark [] marks = marks
parts_mark (first ∷ others) marks = parts_mark others (first.value marks)

-- whether one of the marks from a place on is set
abbrev pub some_set : ℕ → List Bool → Bool
some_set count marks = list_any (λ (mark : Bool). mark) (drop count marks)

abbrev pub mark_if : Bool → Seen Marks → Marks
mark_if needed part marks = if needed then part.value marks else marks

-- what a `let` binds sets marks where its variable is used, or where it may raise
abbrev pub let_marks : Target → Seen Marks → ℕ → Marks
let_marks t part count marks = mark_if (some_set count marks || may_raise t part.tree) part (take count marks)

-- the variables of an arm go out of scope behind it
abbrev pub arm_marks : ℕ → List Bool → Looked
arm_marks count marks = looked (take count marks) (some_set count marks)

abbrev pub with_others : Bool → Bool → Looked → Looked → Looked
with_others tests goes_on first others =
    if tests then looked others.marks (first.object || (goes_on || others.object)) else first

abbrev pub is_last : {A : Type 0} → List A → Bool
is_last [] = true
is_last (first ∷ others) = false

abbrev pub arms_mark : Target → Ty → Bool → List (PatC × Seen Marks) → List Bool → Looked
arms_mark t of complete [] marks = looked marks false
arms_mark t of complete (arm ∷ others) marks =
    let first = arm_marks (length marks) (arm.1.value (marks ++ replicate (variables arm.0) false)) in
    with_others (needs_test t of arm.0) (not (is_last others) || not complete) first (arms_mark t of complete others first.marks)

abbrev pub case_marks : Target → Seen Marks → Looked → List Bool
case_marks t part it = mark_if (it.object || may_raise t part.tree) part it.marks

abbrev pub arguments_mark : Target → Option Called → ℕ → List (Seen Marks) → Marks
arguments_mark t called place [] marks = marks
arguments_mark t called place (first ∷ others) marks =
    arguments_mark t called (place + 1) others (mark_if (call_uses called place || may_raise t first.tree) first marks)

abbrev pub mark_step : Target → TypedExpr-F (Seen Marks) → Marks
mark_step t (TypedExpr-F.Word word) marks = marks
mark_step t (TypedExpr-F.Var number) marks = slice_set marks number true
mark_step t (TypedExpr-F.Con place parts) marks = parts_mark parts marks
mark_step t (TypedExpr-F.Tuple parts) marks = parts_mark parts marks
mark_step t (TypedExpr-F.Vect parts) marks = parts_mark parts marks
mark_step t (TypedExpr-F.Prim op of parts) marks = parts_mark parts marks
mark_step t (TypedExpr-F.Convert from to part) marks = part.value marks
mark_step t (TypedExpr-F.Index of place_ty vector place) marks = place.value (vector.value marks)
mark_step t (TypedExpr-F.Update of place_ty vector place item) marks = item.value (place.value (vector.value marks))
mark_step t (TypedExpr-F.If test when_true when_false) marks = when_false.value (when_true.value (test.value marks))
mark_step t (TypedExpr-F.Case of part arms) marks = case_marks t part (arms_mark t of (arms_complete t of arms) arms marks)
mark_step t (TypedExpr-F.Let of part body) marks = let_marks t part (length marks) (body.value (marks ++ false ∷ []))
mark_step t (TypedExpr-F.Call function parts) marks = arguments_mark t (slice_get t.called function) 0 parts marks
mark_step t (TypedExpr-F.Raise exn None) marks = marks
mark_step t (TypedExpr-F.Raise exn (Some part)) marks = part.value marks

-- the marks with those set that the expression uses
abbrev pub marks_of : Target → TypedExpr → Marks
marks_of t = by_forms (mark_step t)

abbrev pub seen_marks : Target → TypedExpr → Seen Marks
seen_marks t e = seen (mark_step t) e

abbrev pub arm_seen : Target → PatC × TypedExpr → PatC × Seen Marks
arm_seen t arm = (arm.0, seen_marks t arm.1)
