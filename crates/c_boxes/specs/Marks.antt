-- Which variables a result uses, as marks: one for each variable in scope, which a part sets where it uses the variable.
use Rattle.std.specs.Prelude.{ℕ, ◌+◌, not, ◌||◌, Bool, true, false, List, [], ◌∷◌, ◌++◌, length, take, drop, replicate, Option, Some, None, if◌then◌else◌}
use Rattle.std.specs.List.{list_any}
use Rattle.hume_base.specs.declared.types.Ty.{Ty}
use Rattle.hume_model.specs.declared.core_tree.PatC.{PatC}
use Rattle.typed_core.specs.declared.typed_tree.TypedExpr.{TypedExpr}
use Rattle.typed_core.specs.declared.typed_tree.TypedResult.TheOpen.{TypedResult-F}
use Rattle.c_analysis.specs.Needs.{needs_test, variables}
use Rattle.c_analysis.specs.Raises.{arms_complete, may_raise}
use Rattle.c_analysis.specs.Targets.{Target}
use Rattle.c_analysis.specs.Uses.{marked, uses}
use Rattle.c_expressions.specs.Expressions.{no_arm}

abbrev pub Marks : Type 0
Marks = List Bool → List Bool

-- with those set that an expression uses
abbrev pub expression_marks : Target → TypedExpr → Marks
expression_marks t e marks = marked (uses t e (length marks)) marks

abbrev pub output_marks : Target → Option TypedExpr → Marks
output_marks t None marks = marks
output_marks t (Some e) marks = expression_marks t e marks

abbrev pub outputs_mark : Target → List (Option TypedExpr) → Marks
outputs_mark t [] marks = marks
outputs_mark t (out ∷ outs) marks = outputs_mark t outs (output_marks t out marks)

-- whether one of the marks from a place on is set
abbrev pub some_set : ℕ → List Bool → Bool
some_set count marks = list_any (λ (mark : Bool). mark) (drop count marks)

-- an expression that is evaluated only where it is needed, or may raise
abbrev pub marks_if : Target → Bool → TypedExpr → Marks
marks_if t needed e marks = if needed || may_raise t e then expression_marks t e marks else marks

-- the marks behind the arms of a `case`, and whether its object is looked at: by a test, or by a variable that is used
pub record Looked : Type 0 where
  pub marks : List Bool
  pub object : Bool

abbrev pub looked : List Bool → Bool → Looked
looked marks object = record { marks = marks; object = object }

-- variables behind the first ones go out of scope
abbrev pub left_at : ℕ → List Bool → Looked
left_at count marks = looked (take count marks) (some_set count marks)

-- arms behind one that matches all values are never written
abbrev pub with_others : Bool → Bool → Looked → Looked → Looked
with_others tests goes_on first others = if tests then looked others.marks (first.object || (goes_on || others.object)) else first

abbrev pub arms_mark : Target → Ty → Bool → List (PatC × Marks) → List Bool → Looked
arms_mark t of complete [] marks = looked marks false
arms_mark t of complete (arm ∷ others) marks =
    let first = left_at (length marks) (arm.1 (marks ++ replicate (variables arm.0) false)) in
    with_others (needs_test t of arm.0) (not (no_arm others) || not complete) first (arms_mark t of complete others first.marks)

abbrev pub case_marks : Target → TypedExpr → Looked → List Bool
case_marks t part it = marks_if t it.object part it.marks

abbrev pub let_marks : Target → TypedExpr → Looked → List Bool
let_marks t part it = marks_if t it.object part it.marks

-- one level of a result, with the marks of its parts
abbrev pub mark_step : Target → TypedResult-F Marks → Marks
mark_step t (TypedResult-F.Outs outs) marks = outputs_mark t outs marks
mark_step t (TypedResult-F.If test when_true when_false) marks = when_false (when_true (expression_marks t test marks))
mark_step t (TypedResult-F.Case of part arms) marks = case_marks t part (arms_mark t of (arms_complete t of arms) arms marks)
mark_step t (TypedResult-F.Let of part body) marks = let_marks t part (left_at (length marks) (body (marks ++ false ∷ [])))
mark_step t (TypedResult-F.Raise exn None) marks = marks
mark_step t (TypedResult-F.Raise exn (Some part)) marks = expression_marks t part marks

-- no variable is used
abbrev pub unmarked : ℕ → List Bool
unmarked count = replicate count false
