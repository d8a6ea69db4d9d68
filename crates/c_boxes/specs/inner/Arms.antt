-- What the alternatives of a result come to, one by one.
use Rattle.std.specs.Prelude.{Bool, false, List, [], ◌∷◌, ◌++◌, length, replicate}
use Rattle.hume_model.specs.declared.core_tree.PatC.{PatC}
use Rattle.typed_core.specs.declared.typed_tree.TypedResult.{TypedResult}
use Rattle.c_analysis.specs.Needs.{variables}
use Rattle.c_analysis.specs.Targets.{Target}
use Rattle.c_boxes.specs.Marks.{Looked, Marks, left_at}
use Rattle.c_boxes.specs.Results.{Given, given}

-- the marks of the variables that a result uses
abbrev pub result_marks : Target → TypedResult → Marks
result_marks t it = (given t it).marks

abbrev pub arm_given : Target → PatC × TypedResult → PatC × Given
arm_given t arm = (arm.0, given t arm.1)

-- the marks behind an arm, whose variables go out of scope, and whether one of them is used
abbrev pub arm_left : Target → PatC × TypedResult → List Bool → Looked
arm_left t arm marks = left_at (length marks) (result_marks t arm.1 (marks ++ replicate (variables arm.0) false))

-- the same of the body of a `let`
abbrev pub body_left : Target → TypedResult → List Bool → Looked
body_left t body marks = left_at (length marks) (result_marks t body (marks ++ false ∷ []))
