-- What is written of the result of a rule or a handler: the outputs that are to be asserted, or an exception.
use Rattle.std.specs.Prelude.{ℕ, ◌+◌, ◌&&◌, Bool, List, [], ◌∷◌, ◌++◌, length, map, Option, Some, None, slice_get}
use Rattle.std.specs.Int.Bits.{bit_or}
use Rattle.hume_base.specs.declared.types.Ty.{Ty}
use Rattle.hume_base.specs.declared.types.Ty.TheVariants as shape
use Rattle.hume_model.specs.declared.core_tree.BoxC.{BoxC}
use Rattle.hume_model.specs.declared.core_tree.PortC.{PortC}
use Rattle.hume_model.specs.declared.core_tree.PatC.{PatC}
use Rattle.hume_model.specs.declared.exceptions.TheConstants.{NO_CASE}
use Rattle.typed_core.specs.declared.typed_tree.TypedExpr.{TypedExpr}
use Rattle.typed_core.specs.declared.typed_tree.TypedResult.{TypedResult, fold-TypedResult, map-TypedResult}
use Rattle.typed_core.specs.declared.typed_tree.TypedResult.TheOpen.{TypedResult-F}
use Rattle.c_tree.specs.declared.tree.CExp.{CExp}
use Rattle.c_tree.specs.declared.tree.CExp.TheVariants as exp
use Rattle.c_tree.specs.declared.tree.CStm.{CStm}
use Rattle.c_tree.specs.declared.tree.CStm.TheVariants as stm
use Rattle.c_forms.specs.Statements.{tested}
use Rattle.c_nets.specs.Parts.{bit_of, mask_width, output_of, pending}
use Rattle.c_expressions.specs.declared.arms.Way.{Way}
use Rattle.c_expressions.specs.declared.made.Code.{Code}
use Rattle.c_expressions.specs.declared.made.Made.{Made}
use Rattle.c_expressions.specs.declared.made.Destination.TheVariants as to
use Rattle.c_expressions.specs.Made.{behind, ended, followed, made, nothing}
use Rattle.c_expressions.specs.Patterns.{matched}
use Rattle.c_analysis.specs.Raises.{arms_complete}
use Rattle.c_analysis.specs.Targets.{Target}
use Rattle.c_expressions.specs.Expressions.{Scope, arm_built, built, no_arm, part_of, raised, raised_with, subject, value}
use Rattle.c_boxes.specs.Marks.{Marks, arms_mark, left_at, mark_step, unmarked}

-- What is written, by the box, the objects in scope and the first number that no name of the function has.
abbrev pub Writes : Type 0
Writes = BoxC → Scope → ℕ → Made

-- a result: the marks that it sets, and what is written of it
pub record Given : Type 0 where
  pub marks : Marks
  pub made : Writes

-- ---- outputs

abbrev pub output_made : Target → BoxC → Scope → ℕ → Option TypedExpr → Option PortC → ℕ → Made
output_made t b scope place (Some e) (Some port) next = built t e scope (to.Place (output_of t.file.names b place)) port.ty next
output_made t b scope place _ _ next = nothing next

-- the outputs from a place on, one after the other
abbrev pub outputs_made : Target → BoxC → Scope → ℕ → List (Option TypedExpr) → Made → Made
outputs_made t b scope place [] before = before
outputs_made t b scope place (out ∷ outs) before =
    outputs_made t b scope (place + 1) outs (followed before (output_made t b scope place out (slice_get b.outs place) before.next))

abbrev pub given_bit : ℕ → Option TypedExpr → Option PortC → ℕ
given_bit place (Some e) (Some port) = bit_of place
given_bit place _ _ = 0

-- the bits of the outputs from a place on that get a value
abbrev pub given_bits : BoxC → ℕ → List (Option TypedExpr) → ℕ
given_bits b place [] = 0
given_bits b place (out ∷ outs) = bit_or (given_bit place out (slice_get b.outs place)) (given_bits b (place + 1) outs)

-- the outputs that get a value are pending
abbrev pub pending_set : Target → List (Option TypedExpr) → BoxC → CStm
pending_set t outs b = stm.Assign (pending t.file.names b) (exp.Unsigned (mask_width b) (given_bits b 0 outs))

-- each output that gets a value is built in its object, and these outputs are pending
abbrev pub outs_made : Target → List (Option TypedExpr) → Writes
outs_made t outs b scope next =
    let all = outputs_made t b scope 0 outs (nothing next) in
    ended all.statements (pending_set t outs b) all.next

-- ---- choices

-- the two sides of a choice behind its test
abbrev pub sides_made : Code → Given → Given → BoxC → Scope → Made
sides_made test when_true when_false b scope =
    let body = when_true.made b scope test.next in
    let otherwise = when_false.made b scope body.next in
    ended test.statements (tested test.exp body.statements otherwise.statements) otherwise.next

abbrev pub if_made : Target → TypedExpr → Given → Given → Writes
if_made t test when_true when_false b scope next = sides_made (value t test scope shape.Bool next) when_true when_false b scope

-- the tests of an alternative for an object, and what is done where all of them hold
abbrev pub arm_way : Target → Ty → CExp → PatC × Given → BoxC → Scope → ℕ → Way
arm_way t of object arm b scope next =
    let found = matched t arm.0 of object in
    record { tests = found.tests; made = arm.1.made b (scope ++ found.objects) next }

-- the statements of the first alternative that the object matches
abbrev pub arms_made : Target → Ty → CExp → Bool → List (PatC × Given) → Writes
arms_made t of object complete [] b scope next = made (raised t NO_CASE) next
arms_made t of object complete (arm ∷ others) b scope next =
    let way = arm_way t of object arm b scope next in
    arm_built way.tests (complete && no_arm others) way.made (arms_made t of object complete others b scope way.made.next)

abbrev pub arm_mark : PatC × Given → PatC × Marks
arm_mark arm = (arm.0, arm.1.marks)

-- whether the object of a `case` is looked at, behind so many variables
abbrev pub is_looked_at : Target → Ty → Bool → List (PatC × Given) → ℕ → Bool
is_looked_at t of complete arms count = (arms_mark t of complete (map arm_mark arms) (unmarked count)).object

-- the alternatives behind the object that they look at
abbrev pub arms_behind : Target → Ty → Code → Bool → List (PatC × Given) → BoxC → Scope → Made
arms_behind t of object complete arms b scope =
    behind object.statements (arms_made t of object.exp complete arms b scope object.next)

abbrev pub case_made : Target → Ty → TypedExpr → List (PatC × Given) → Writes
case_made t of part arms b scope next =
    let complete = arms_complete t of arms in
    arms_behind t of (subject t (part_of t part) (is_looked_at t of complete arms (length scope)) scope of next) complete arms b scope

-- whether the body of a `let` uses its variable, the next one behind so many
abbrev pub uses_next : Given → ℕ → Bool
uses_next body count = (left_at count (body.marks (unmarked (count + 1)))).object

-- the object of what a `let` binds
abbrev pub bound : Target → Ty → TypedExpr → Given → Scope → ℕ → Code
bound t of part body scope next = subject t (part_of t part) (uses_next body (length scope)) scope of next

abbrev pub let_made : Target → Ty → TypedExpr → Given → Writes
let_made t of part body b scope next =
    let object = bound t of part body scope next in
    behind object.statements (body.made b (scope ++ object.exp ∷ []) object.next)

-- ---- the forms

abbrev pub form_made : Target → TypedResult-F Given → Writes
form_made t (TypedResult-F.Outs outs) b scope next = outs_made t outs b scope next
form_made t (TypedResult-F.If test when_true when_false) b scope next = if_made t test when_true when_false b scope next
form_made t (TypedResult-F.Case of part arms) b scope next = case_made t of part arms b scope next
form_made t (TypedResult-F.Let of part body) b scope next = let_made t of part body b scope next
form_made t (TypedResult-F.Raise exn None) b scope next = made (raised t exn) next
form_made t (TypedResult-F.Raise exn (Some part)) b scope next = raised_with t (part_of t part) scope next (slice_get t.core.exns exn)

abbrev pub marks_in : Given → Marks
marks_in it = it.marks

abbrev pub given_step : Target → TypedResult-F Given → Given
given_step t layer = record { marks = mark_step t (map-TypedResult Given Marks marks_in layer); made = form_made t layer }

abbrev pub given : Target → TypedResult → Given
given t = fold-TypedResult Given (given_step t)

-- the statements of a result
abbrev pub result_made : Target → TypedResult → Writes
result_made t it = (given t it).made
