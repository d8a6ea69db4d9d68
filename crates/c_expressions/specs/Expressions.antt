-- How expressions are written in C. A form is written in two ways: its value is built at a destination, or an expression of C gives it.
use Rattle.std.specs.Prelude.{ℕ, ◌+◌, ◌-◌, nat_lt, not, ◌&&◌, ◌||◌, Bool, true, false, List, [], ◌∷◌, ◌++◌, codes, length, map, Option, Some, None, slice_get, if◌then◌else◌}
use Rattle.hume_base.specs.declared.types.Ty.{Ty, out-Ty}
use Rattle.hume_base.specs.declared.types.Ty.TheOpen.{Ty-F}
use Rattle.hume_base.specs.declared.types.Ty.TheVariants as shape
use Rattle.hume_base.specs.declared.types.ConDef.{ConDef}
use Rattle.hume_base.specs.declared.types.SumDef.{SumDef}
use Rattle.hume_model.specs.declared.core_tree.Op.{Op}
use Rattle.hume_model.specs.declared.core_tree.PatC.{PatC}
use Rattle.hume_model.specs.declared.core_tree.ExnDef.{ExnDef}
use Rattle.hume_model.specs.declared.exceptions.TheConstants.{DIV_ZERO, RANGE, NO_CASE}
use Rattle.typed_core.specs.declared.typed_tree.TypedExpr.{TypedExpr, out-TypedExpr, roll-TypedExpr, map-TypedExpr}
use Rattle.typed_core.specs.declared.typed_tree.TypedExpr.TheOpen.{TypedExpr-F}
use Rattle.c_tree.specs.declared.tree.Width.{Width}
use Rattle.c_tree.specs.declared.tree.Width.TheVariants.{W8, W16, W32, W64}
use Rattle.c_tree.specs.declared.tree.CType.{CType}
use Rattle.c_tree.specs.declared.tree.CType.TheVariants as type
use Rattle.c_tree.specs.declared.tree.CExp.{CExp, out-CExp}
use Rattle.c_tree.specs.declared.tree.CExp.TheOpen.{CExp-F}
use Rattle.c_tree.specs.declared.tree.CExp.TheVariants as exp
use Rattle.c_tree.specs.declared.tree.COp.TheVariants as op
use Rattle.c_tree.specs.declared.tree.CStm.{CStm}
use Rattle.c_tree.specs.declared.tree.CStm.TheVariants as stm
use Rattle.c_forms.specs.Expressions.{choice, is_lasting, read_of}
use Rattle.c_forms.specs.Same.{is_same}
use Rattle.c_forms.specs.Statements.{one_if, tested}
use Rattle.c_names.specs.Names.{inner}
use Rattle.c_types.specs.Shapes.{Form, Tagged, form_of, literal}
use Rattle.c_arithmetic.specs.Operations.{conversion, operation_of, quotient}
use Rattle.c_expressions.specs.declared.made.Made.{Made}
use Rattle.c_expressions.specs.declared.made.Code.{Code}
use Rattle.c_expressions.specs.declared.made.Destination.{Destination}
use Rattle.c_expressions.specs.declared.made.Destination.TheVariants as to
use Rattle.c_expressions.specs.declared.calls.ArgumentCode.{ArgumentCode}
use Rattle.c_analysis.specs.declared.setting.Called.{Called}
use Rattle.c_expressions.specs.Made.{made, code, nothing, plain, behind, behind_code, followed, ended, with_value, without_value, declared, defined, defined_divisor, given}
use Rattle.c_expressions.specs.Patterns.{conjunction, field_of, fields_of, matched}
use Rattle.c_analysis.specs.Plain.{is_connective, is_division, is_plain, is_word, uses_argument}
use Rattle.c_analysis.specs.Raises.{arms_complete, is_inside, is_nonzero, may_raise, word_of}
use Rattle.c_analysis.specs.Seen.{Seen, by_forms, seen, tree_of}
use Rattle.c_analysis.specs.Targets.{Target, Known, callee_of, con_of, gives_value, is_number, sum_of, tag, type_of}
use Rattle.c_analysis.specs.Uses.{Uses, looked_at, uses, uses_step}

-- the objects of the variables in scope
abbrev pub Scope : Type 0
Scope = List CExp

-- the two ways: each is told the objects in scope, the type and the first number that no name of the function has
pub record Ways : Type 0 where
  pub build : Scope → Destination → Ty → ℕ → Made
  pub value : Scope → Ty → ℕ → Code

abbrev pub Part : Type 0
Part = Seen Ways

-- ---- exceptions

abbrev pub returned : Target → ExnDef → CStm
returned t exn = stm.Return (Some (exp.Name (inner t.file.names (codes "RAISES_") exn.name)))

abbrev pub raised_as : Target → Option ExnDef → List CStm
raised_as t None = []
raised_as t (Some exn) = returned t exn ∷ []

-- returns the number of an exception
abbrev pub raised : Target → ℕ → List CStm
raised t exn = raised_as t (slice_get t.core.exns exn)

-- what an exception carries goes to its object
abbrev pub raised_carrying : Target → ExnDef → Code → Made
raised_carrying t exn it =
    ended (it.statements ++ stm.Assign (exp.Name (inner t.file.names (codes "raised_") exn.name)) it.exp ∷ []) (returned t exn) it.next

abbrev pub raised_typed : Target → Part → Scope → ℕ → ExnDef → Option Ty → Made
raised_typed t part scope next exn None = made (returned t exn ∷ []) next
raised_typed t part scope next exn (Some ty) = raised_carrying t exn (part.value.value scope ty next)

abbrev pub raised_with : Target → Part → Scope → ℕ → Option ExnDef → Made
raised_with t part scope next None = nothing next
raised_with t part scope next (Some exn) = raised_typed t part scope next exn exn.carries

-- ---- parts, one after the other

abbrev pub part_built : Part → Scope → Destination → Option Ty → ℕ → Made
part_built part scope into None next = nothing next
part_built part scope into (Some ty) next = part.value.build scope into ty next

-- the parts from a place on: the types by places, and where parts go by places
abbrev pub parts_built : (ℕ → Option Ty) → (ℕ → Destination) → Scope → ℕ → List Part → Made → Made
parts_built ty_at into scope place [] before = before
parts_built ty_at into scope place (part ∷ parts) before =
    parts_built ty_at into scope (place + 1) parts (followed before (part_built part scope (into place) (ty_at place) before.next))

-- an element of a vector
abbrev pub element_of : CExp → CExp → CExp
element_of vector index = exp.Element (exp.Member vector (codes "e")) index

abbrev pub element_in : Destination → ℕ → Destination
element_in (to.Place object) place = to.Place (element_of object (exp.Unsigned W16 place))
element_in _ place = to.Nowhere

abbrev pub field_in : Destination → ℕ → Destination
field_in (to.Place object) place = to.Place (field_of object place)
field_in _ place = to.Nowhere

abbrev pub tuple_built : Ty-F Ty → Scope → Destination → ℕ → List Part → Made
tuple_built (Ty-F.Tuple tys) scope into next parts = parts_built (slice_get tys) (field_in into) scope 0 parts (nothing next)
tuple_built _ scope into next parts = nothing next

abbrev pub vector_built : Ty-F Ty → Scope → Destination → ℕ → List Part → Made
vector_built (Ty-F.Vector count item) scope into next parts = parts_built (λ place. Some item) (element_in into) scope 0 parts (nothing next)
vector_built _ scope into next parts = nothing next

-- a value that has a tag gets it first
abbrev pub tag_written : Target → Form → Destination → ℕ → List CStm
tag_written t (Tagged sum) (to.Place object) place = stm.Assign (exp.Member object (codes "tag")) (tag t sum place) ∷ []
tag_written t _ into place = []

-- where the fields of a constructor go
abbrev pub fields_in : Form → Destination → ConDef → Destination
fields_in (Tagged sum) (to.Place object) con = to.Place (fields_of object con)
fields_in _ (to.Place object) con = to.Place object
fields_in _ into con = to.Nowhere

abbrev pub con_built : Target → Option ConDef → Form → Scope → Destination → ℕ → ℕ → List Part → Made
con_built t None it scope into next place parts = nothing next
con_built t (Some con) it scope into next place parts =
    behind (tag_written t it into place) (parts_built (slice_get con.fields) (field_in (fields_in it into con)) scope 0 parts (nothing next))

-- ---- choices

abbrev pub no_statement : List CStm → Bool
no_statement [] = true
no_statement (first ∷ others) = false

-- a choice between statements; of none, only what stands before it
abbrev pub chosen : List CStm → CExp → List CStm → Made → Made
chosen before test body otherwise =
    if no_statement body && no_statement otherwise.statements then made before otherwise.next
    else ended before (tested test body otherwise.statements) otherwise.next

-- the two sides of a choice behind its test
abbrev pub sides_built : Code → Part → Part → Scope → Destination → Ty → Made
sides_built test when_true when_false scope into ty =
    let body = when_true.value.build scope into ty test.next in
    chosen test.statements test.exp body.statements (when_false.value.build scope into ty body.next)

abbrev pub if_built : Part → Part → Part → Scope → Destination → Ty → ℕ → Made
if_built test when_true when_false scope into ty next =
    sides_built (test.value.value scope shape.Bool next) when_true when_false scope into ty

abbrev pub is_constructor_form : TypedExpr-F TypedExpr → Bool
is_constructor_form (TypedExpr-F.Con place parts) = true
is_constructor_form _ = false

abbrev pub is_constructor : TypedExpr → Bool
is_constructor e = is_constructor_form (out-TypedExpr e)

-- A number that may change, or that isn't written twice, gets a variable. A constructor's constant isn't compared with itself.
abbrev pub kept : Target → Ty → TypedExpr → Code → Code
kept t ty tree it =
    if not (is_number t ty) || (is_lasting it.exp && not (is_constructor tree)) then it else defined (type_of t ty) it

-- The object of the value of an expression, or a constant. Where it isn't used, the expression is evaluated for what it may raise.
abbrev pub subject : Target → Part → Bool → Scope → Ty → ℕ → Code
subject t part used scope ty next =
    if used then kept t ty part.tree (part.value.value scope ty next)
    else with_value (part.value.build scope to.Nowhere ty next) (exp.Truth false)

-- the object of what a `let` binds
abbrev pub bound : Target → Ty → Part → Part → Scope → ℕ → Code
bound t of part body scope next = subject t part (uses t body.tree (length scope + 1) (length scope)) scope of next

abbrev pub let_built : Target → Ty → Part → Part → Scope → Destination → Ty → ℕ → Made
let_built t of part body scope into ty next =
    let object = bound t of part body scope next in
    behind object.statements (body.value.build (scope ++ object.exp ∷ []) into ty object.next)

abbrev pub no_exp : List CExp → Bool
no_exp [] = true
no_exp (first ∷ others) = false

abbrev pub no_arm : {A : Type 0} → List A → Bool
no_arm [] = true
no_arm (first ∷ others) = false

-- statements where all tests hold, and other ones where one doesn't
abbrev pub tried : List CExp → List CStm → Made → Made
tried tests body otherwise = ended [] (tested (conjunction tests) body otherwise.statements) otherwise.next

-- an alternative without tests, or the last of complete ones, has no other behind it
abbrev pub arm_built : List CExp → Bool → Made → Made → Made
arm_built tests last body otherwise = if no_exp tests || last then body else tried tests body.statements otherwise

-- the statements of the first alternative that the object matches
abbrev pub arms_built : Target → Scope → Destination → Ty → Ty → CExp → Bool → ℕ → List (PatC × Part) → Made
arms_built t scope into ty of object complete next [] = made (raised t NO_CASE) next
arms_built t scope into ty of object complete next (arm ∷ others) =
    let found = matched t arm.0 of object in
    let body = arm.1.value.build (scope ++ found.objects) into ty next in
    arm_built found.tests (complete && no_arm others) body (arms_built t scope into ty of object complete body.next others)

abbrev pub arm_uses : Target → List (PatC × Part) → List (PatC × Seen Uses)
arm_uses t arms = map (λ (arm : PatC × Part). (arm.0, seen (uses_step t) arm.1.tree)) arms

abbrev pub case_built : Target → Ty → Part → List (PatC × Part) → Scope → Destination → Ty → ℕ → Made
case_built t of part arms scope into ty next =
    let complete = arms_complete t of arms in
    let object = subject t part (looked_at t of complete (length scope) (arm_uses t arms)) scope of next in
    behind object.statements (arms_built t scope into ty of object.exp complete object.next arms)

-- ---- calls

abbrev pub arguments : List CStm → List CExp → ℕ → ArgumentCode
arguments statements exps next = record { statements = statements; exps = exps; next = next }

abbrev pub joined : ArgumentCode → ArgumentCode → ArgumentCode
joined first more = arguments (first.statements ++ more.statements) (first.exps ++ more.exps) more.next

-- a scalar is passed by value, another one by a pointer to its object
abbrev pub passed : Target → Ty → Code → ArgumentCode
passed t ty it = arguments it.statements ((if is_number t ty then it.exp else read_of it.exp) ∷ []) it.next

abbrev pub argument_made : Target → Part → Scope → Ty → Bool → ℕ → ArgumentCode
argument_made t part scope ty used next =
    if used then passed t ty (part.value.value scope ty next)
    else (let it = part.value.build scope to.Nowhere ty next in arguments it.statements [] it.next)

abbrev pub argument_typed : Target → Part → Scope → Option Ty → Bool → ℕ → ArgumentCode
argument_typed t part scope None used next = arguments [] [] next
argument_typed t part scope (Some ty) used next = argument_made t part scope ty used next

-- the arguments from a place on that the function uses. Others are evaluated for what they may raise.
abbrev pub arguments_made : Target → Known → Scope → ℕ → List Part → ArgumentCode → ArgumentCode
arguments_made t callee scope place [] before = before
arguments_made t callee scope place (part ∷ parts) before =
    arguments_made t callee scope (place + 1) parts
    (joined before (argument_typed t part scope (slice_get callee.function.params place) (uses_argument callee.called place) before.next))

abbrev pub all_arguments : Target → Known → Scope → ℕ → List Part → ArgumentCode
all_arguments t callee scope next parts = arguments_made t callee scope 0 parts (arguments [] [] next)

-- a call that is an expression
abbrev pub call_of : Called → ArgumentCode → Code
call_of called it = code it.statements (exp.Call called.name it.exps) it.next

-- a call of a function that always raises: so does the caller
abbrev pub ended_by : Called → ArgumentCode → Made
ended_by called it = ended it.statements (stm.Return (Some (exp.Call called.name it.exps))) it.next

abbrev pub status_tested : Code → Made
status_tested status =
    ended status.statements (one_if (exp.Binary op.NotEqual status.exp (exp.Unsigned W8 0)) (stm.Return (Some status.exp) ∷ [])) status.next

-- a call that writes its result through a pointer. Where it raises, so does the caller.
abbrev pub call_to : Called → ArgumentCode → CExp → Made
call_to called it object =
    let exps = it.exps ++ read_of object ∷ [] in
    if called.raises then status_tested (defined (type.Unsigned W8) (code it.statements (exp.Call called.name exps) it.next))
    else ended it.statements (stm.Call called.name exps) it.next

-- an object of the type, behind the statements of arguments
abbrev pub with_object : CType → ArgumentCode → ArgumentCode
with_object ty it = arguments (it.statements ++ (declared ty it.next).statements) it.exps (it.next + 1)

abbrev pub call_in : Target → Destination → Ty → Called → ArgumentCode → Made
call_in t (to.Place object) ty called it = call_to called it object
call_in t _ ty called it = call_to called (with_object (type_of t ty) it) (declared (type_of t ty) it.next).exp

abbrev pub call_written : Target → Destination → Ty → Known → ArgumentCode → Made
call_written t into ty callee it =
    if gives_value t callee then given into (call_of callee.called it)
    else (if callee.called.gives then call_in t into ty callee.called it else ended_by callee.called it)

-- what stands behind a statement that never goes on
abbrev pub placeholder_in : Ty-F Ty → Ty → CExp
placeholder_in (Ty-F.Named number) ty = literal (shape.Nat 8) 0
placeholder_in _ ty = literal ty 0

abbrev pub placeholder : Ty → CExp
placeholder ty = placeholder_in (out-Ty ty) ty

abbrev pub call_value : Target → Ty → Known → ArgumentCode → Code
call_value t ty callee it =
    if gives_value t callee then call_of callee.called it
    else (if callee.called.gives
    then (let object = (declared (type_of t ty) it.next).exp in with_value (call_to callee.called (with_object (type_of t ty) it) object) object)
    else with_value (ended_by callee.called it) (placeholder ty))

abbrev pub is_nowhere : Destination → Bool
is_nowhere to.Nowhere = true
is_nowhere _ = false

-- a call that can't raise, and whose value goes nowhere
abbrev pub is_skipped : Known → Destination → Bool
is_skipped callee into = is_nowhere into && not callee.called.raises

abbrev pub call_built : Target → Option Known → List Part → Scope → Destination → Ty → ℕ → Made
call_built t None parts scope into ty next = nothing next
call_built t (Some callee) parts scope into ty next =
    if is_skipped callee into
    then parts_built (slice_get callee.function.params) (field_in into) scope 0 parts (nothing next)
    else call_written t into ty callee (all_arguments t callee scope next parts)

abbrev pub call_valued : Target → Option Known → List Part → Scope → Ty → ℕ → Code
call_valued t None parts scope ty next = plain (exp.Truth false) next
call_valued t (Some callee) parts scope ty next = call_value t ty callee (all_arguments t callee scope next parts)

-- ---- elements of vectors

abbrev pub index_in : Option ℕ → CExp
index_in None = exp.Unsigned W16 0
index_in (Some word) = exp.Unsigned W16 (word - 1)

abbrev pub width_in : Ty-F Ty → Width
width_in (Ty-F.Int bits) = if nat_lt 32 bits then W64 else W32
width_in (Ty-F.Nat bits) = if nat_lt 32 bits then W64 else W32
width_in _ = W32

-- the width in which places of the type are compared
abbrev pub width_of_places : Ty → Width
width_of_places ty = width_in (out-Ty ty)

-- a variable with the place less one, without a sign: it lies within the length if it is below it
abbrev pub index_variable : Ty → Code → Code
index_variable place_ty it =
    let width = width_of_places place_ty in
    defined (type.Unsigned width)
    (code it.statements (exp.Binary op.Subtract (exp.Cast (type.Unsigned width) it.exp) (exp.Unsigned width 1)) it.next)

-- the index of a place
abbrev pub index_of : Ty → Ty → Part → Scope → ℕ → Code
index_of of place_ty place scope next =
    if is_inside of place.tree then plain (index_in (word_of place.tree)) next else index_variable place_ty (place.value.value scope place_ty next)

abbrev pub range_in : Target → Ty-F Ty → Ty → CExp → List CStm
range_in t (Ty-F.Vector count item) place_ty index =
    one_if (exp.Binary op.GreaterEqual index (exp.Unsigned (width_of_places place_ty) count)) (raised t RANGE) ∷ []
range_in t _ place_ty index = []

-- raises `Range` where an index isn't within the length
abbrev pub range_test : Target → Ty → Ty → TypedExpr → CExp → List CStm
range_test t of place_ty place index = if is_inside of place then [] else range_in t (out-Ty of) place_ty index

abbrev pub index_tested : Target → Ty → Ty → TypedExpr → Code → Code
index_tested t of place_ty place it = code (it.statements ++ range_test t of place_ty place it.exp) it.exp it.next

-- what taking an element may raise
abbrev pub index_effects : Target → Ty → Ty → Part → Part → Scope → ℕ → Made
index_effects t of place_ty vector place scope next =
    let before = vector.value.build scope to.Nowhere of next in
    behind before.statements (without_value (index_tested t of place_ty place.tree (index_of of place_ty place scope before.next)))

abbrev pub element_at : Code → Code → Code
element_at vector index = behind_code vector.statements (code index.statements (element_of vector.exp index.exp) index.next)

-- the element of a vector at a place
abbrev pub indexed : Target → Ty → Ty → Part → Part → Scope → ℕ → Code
indexed t of place_ty vector place scope next =
    let it = vector.value.value scope of next in
    element_at it (index_tested t of place_ty place.tree (index_of of place_ty place scope it.next))

abbrev pub item_left_out : List CStm → Made → List CStm → Made
item_left_out index it tests = made ((index ++ it.statements) ++ tests) it.next

abbrev pub item_assigned : CExp → Code → Code → List CStm → Made
item_assigned object index value tests =
    ended ((index.statements ++ value.statements) ++ tests) (stm.Assign (element_of object index.exp) value.exp) value.next

abbrev pub item_in : Target → Ty → Ty → Ty → Part → Part → Scope → Destination → Code → Made
item_in t of item_ty place_ty place item scope (to.Place object) index =
    if is_inside of place.tree
    then behind index.statements (item.value.build scope (to.Place (element_of object index.exp)) item_ty index.next)
    else item_assigned object index (item.value.value scope item_ty index.next) (range_test t of place_ty place.tree index.exp)
item_in t of item_ty place_ty place item scope _ index =
    item_left_out index.statements (item.value.build scope to.Nowhere item_ty index.next) (range_test t of place_ty place.tree index.exp)

abbrev pub item_written : Target → Ty → Ty-F Ty → Ty → Part → Part → Scope → Destination → Code → Made
item_written t of (Ty-F.Vector count item_ty) place_ty place item scope into index = item_in t of item_ty place_ty place item scope into index
item_written t of _ place_ty place item scope into index = without_value index

-- a vector with another element. All parts are evaluated before the place is tested.
abbrev pub update_built : Target → Ty → Ty → Part → Part → Part → Scope → Destination → ℕ → Made
update_built t of place_ty vector place item scope into next =
    let before = vector.value.build scope into of next in
    behind before.statements (item_written t of (out-Ty of) place_ty place item scope into (index_of of place_ty place scope before.next))

-- ---- operations

abbrev pub operated : Target → Op → Ty → Code → Code
operated t operator of part = code part.statements (operation_of t.file.names operator of part.exp None) part.next

abbrev pub lasting_divisor : Target → Ty → Code → Code
lasting_divisor t of divisor = if is_lasting divisor.exp then divisor else defined_divisor (type_of t of) divisor

-- a division behind a test, by which it raises where the divisor is 0
abbrev pub divided_if_not_zero : Target → Op → Ty → CExp → Code → Code
divided_if_not_zero t operator of left divisor =
    with_value
    (ended divisor.statements (one_if (exp.Binary op.Equal divisor.exp (literal of 0)) (raised t DIV_ZERO)) divisor.next)
    (quotient t.file.names operator of left divisor.exp None)

abbrev pub divided_by_zero : Target → CExp → Code → Code
divided_by_zero t left divisor = code (divisor.statements ++ raised t DIV_ZERO) left divisor.next

abbrev pub divided_by_literal : Target → Op → Ty → TypedExpr → CExp → Code → Code
divided_by_literal t operator of tree left divisor =
    code divisor.statements (quotient t.file.names operator of left divisor.exp (word_of tree)) divisor.next

-- a division. By 0 it raises, which is tested unless the divisor is a literal.
abbrev pub divided : Target → Op → Ty → TypedExpr → CExp → Code → Code
divided t operator of tree left divisor =
    if is_same divisor.exp (literal of 0) then divided_by_zero t left divisor
    else (if is_nonzero tree then divided_by_literal t operator of tree left divisor
    else divided_if_not_zero t operator of left (lasting_divisor t of divisor))

abbrev pub operated_with : Target → Op → Ty → TypedExpr → Code → Code → Code
operated_with t operator of tree left right =
    let both = behind_code left.statements right in
    if is_division operator then divided t operator of tree left.exp both
    else code both.statements (operation_of t.file.names operator of left.exp (Some both.exp)) both.next

-- the values of two expressions, one after the other
abbrev pub two_values : Part → Part → Scope → Ty → ℕ → Code × Code
two_values left right scope ty next =
    let first = left.value.value scope ty next in (first, right.value.value scope ty first.next)

abbrev pub operation_value : Target → Op → Ty → List Part → Scope → ℕ → Code
operation_value t operator of [] scope next = plain (exp.Truth false) next
operation_value t operator of (part ∷ []) scope next = operated t operator of (part.value.value scope of next)
operation_value t operator of (left ∷ right ∷ others) scope next =
    let both = two_values left right scope of next in operated_with t operator of right.tree both.0 both.1

abbrev pub converted : Target → Ty → Ty → Code → Code
converted t from into it = code it.statements (conversion t.file.names from into it.exp) it.next

-- ---- choices of C

abbrev pub alternatives_in : CExp → CExp-F CExp → List CExp
alternatives_in it (CExp-F.Any parts) = parts
alternatives_in it _ = it ∷ []

-- an `or`, with the alternatives of those within it
abbrev pub alternatives : CExp → List CExp
alternatives it = alternatives_in it (out-CExp it)

abbrev pub conditions_in : CExp → CExp-F CExp → List CExp
conditions_in it (CExp-F.All parts) = parts
conditions_in it _ = it ∷ []

abbrev pub conditions : CExp → List CExp
conditions it = conditions_in it (out-CExp it)

abbrev pub chosen_exp : Target → Ty → TypedExpr → TypedExpr → CExp → CExp → CExp → CExp
chosen_exp t ty when_true when_false test first second =
    if is_connective ty when_true when_false
    then (if is_word when_true 1 then exp.Any (alternatives test ++ alternatives second) else exp.All (conditions test ++ conditions first))
    else choice (type_of t ty) (type_of t ty, type_of t ty) test first second

-- an `and`, an `or`, or a choice of C
abbrev pub chosen_value : Target → Ty → TypedExpr → TypedExpr → Code → Code → Code → Code
chosen_value t ty when_true when_false test first second =
    code (test.statements ++ (first.statements ++ second.statements)) (chosen_exp t ty when_true when_false test.exp first.exp second.exp) second.next

-- a variable to which a value is built
abbrev pub in_variable : Target → (Destination → Ty → ℕ → Made) → Ty → ℕ → Code
in_variable t built ty next =
    let variable = declared (type_of t ty) next in
    with_value (behind variable.statements (built (to.Place variable.exp) ty variable.next)) variable.exp

-- an `and`, an `or` or a choice of C, behind the statements of its parts
abbrev pub if_chosen : Target → Part → Part → Part → Scope → Ty → ℕ → Code
if_chosen t test when_true when_false scope ty next =
    let first = test.value.value scope shape.Bool next in
    let both = two_values when_true when_false scope ty first.next in
    chosen_value t ty when_true.tree when_false.tree first both.0 both.1

abbrev pub if_value : Target → Part → Part → Part → Scope → Ty → ℕ → Code
if_value t test when_true when_false scope ty next =
    if is_plain t ty when_true.tree && is_plain t ty when_false.tree
    then if_chosen t test when_true when_false scope ty next
    else in_variable t (λ into. λ of. λ number. if_built test when_true when_false scope into of number) ty next

-- ---- the forms

-- the statements of a form that fills an object
abbrev pub object_built : Target → TypedExpr-F Part → Scope → Destination → Ty → ℕ → Made
object_built t (TypedExpr-F.Update of place_ty vector place item) scope into ty next =
    update_built t of place_ty vector place item scope into next
object_built t (TypedExpr-F.Tuple parts) scope into ty next = tuple_built (out-Ty ty) scope into next parts
object_built t (TypedExpr-F.Vect parts) scope into ty next = vector_built (out-Ty ty) scope into next parts
object_built t (TypedExpr-F.Con place parts) scope into ty next = con_built t (con_of t ty place) (form_of t.file.types ty) scope into next place parts
object_built t _ scope into ty next = nothing next

-- the statements of a form that has some of its own
abbrev pub form_built : Target → TypedExpr-F Part → Scope → Destination → Ty → ℕ → Made
form_built t (TypedExpr-F.If test when_true when_false) scope into ty next = if_built test when_true when_false scope into ty next
form_built t (TypedExpr-F.Case of part arms) scope into ty next = case_built t of part arms scope into ty next
form_built t (TypedExpr-F.Let of part body) scope into ty next = let_built t of part body scope into ty next
form_built t (TypedExpr-F.Raise exn None) scope into ty next = made (raised t exn) next
form_built t (TypedExpr-F.Raise exn (Some part)) scope into ty next = raised_with t part scope next (slice_get t.core.exns exn)
form_built t (TypedExpr-F.Call function parts) scope into ty next = call_built t (callee_of t function) parts scope into ty next
form_built t layer scope into ty next = object_built t layer scope into ty next

-- the constant of a constructor
abbrev pub tag_in : Target → Option SumDef → ℕ → CExp
tag_in t None place = exp.Truth false
tag_in t (Some sum) place = tag t sum place

abbrev pub scalar_value : Target → TypedExpr-F Part → Scope → Ty → ℕ → Code
scalar_value t (TypedExpr-F.Con place parts) scope ty next = plain (tag_in t (sum_of t ty) place) next
scalar_value t (TypedExpr-F.If test when_true when_false) scope ty next = if_value t test when_true when_false scope ty next
scalar_value t (TypedExpr-F.Call function parts) scope ty next = call_valued t (callee_of t function) parts scope ty next
scalar_value t (TypedExpr-F.Raise exn part) scope ty next =
    with_value (form_built t (TypedExpr-F.Raise exn part) scope to.Nowhere ty next) (placeholder ty)
scalar_value t layer scope ty next = in_variable t (form_built t layer scope) ty next

-- a form that has statements of its own, but for some whose type is a scalar
abbrev pub form_value : Target → TypedExpr-F Part → Scope → Ty → ℕ → Code
form_value t layer scope ty next =
    if is_number t ty then scalar_value t layer scope ty next else in_variable t (form_built t layer scope) ty next

abbrev pub object_in : Option CExp → CExp
object_in None = exp.Truth false
object_in (Some object) = object

-- the object of a variable
abbrev pub object_of : Scope → ℕ → CExp
object_of scope number = object_in (slice_get scope number)

abbrev pub let_value : Target → Ty → Part → Part → Scope → Ty → ℕ → Code
let_value t of part body scope ty next =
    let object = bound t of part body scope next in
    behind_code object.statements (body.value.value (scope ++ object.exp ∷ []) ty object.next)

-- the number that an expression of a scalar type gives; of another type, the object that has its value
abbrev pub layer_value : Target → TypedExpr-F Part → Scope → Ty → ℕ → Code
layer_value t (TypedExpr-F.Word word) scope ty next = plain (literal ty word) next
layer_value t (TypedExpr-F.Var number) scope ty next = plain (object_of scope number) next
layer_value t (TypedExpr-F.Prim operator of parts) scope ty next = operation_value t operator of parts scope next
layer_value t (TypedExpr-F.Convert from into part) scope ty next = converted t from into (part.value.value scope from next)
layer_value t (TypedExpr-F.Index of place_ty vector place) scope ty next = indexed t of place_ty vector place scope next
layer_value t (TypedExpr-F.Let of part body) scope ty next = let_value t of part body scope ty next
layer_value t layer scope ty next = form_value t layer scope ty next

-- what an expression of C may raise: the parts of an operation that can't itself go nowhere each
abbrev pub effects : Target → TypedExpr-F Part → Scope → Ty → ℕ → Made
effects t (TypedExpr-F.Prim operator of parts) scope ty next =
    if is_division operator then without_value (operation_value t operator of parts scope next)
    else parts_built (λ place. Some of) (element_in to.Nowhere) scope 0 parts (nothing next)
effects t (TypedExpr-F.Convert from into part) scope ty next = part.value.build scope to.Nowhere from next
effects t (TypedExpr-F.Index of place_ty vector place) scope ty next = index_effects t of place_ty vector place scope next
effects t layer scope ty next = without_value (layer_value t layer scope ty next)

-- whether the form has statements of its own: it is neither an expression of C nor an object that is already there
abbrev pub has_statements : Target → TypedExpr-F TypedExpr → TypedExpr → Ty → Bool
has_statements t (TypedExpr-F.Word word) e ty = false
has_statements t (TypedExpr-F.Var number) e ty = false
has_statements t (TypedExpr-F.Prim operator of parts) e ty = false
has_statements t (TypedExpr-F.Convert from into part) e ty = false
has_statements t (TypedExpr-F.Index of place_ty vector place) e ty = false
has_statements t (TypedExpr-F.If test when_true when_false) e ty = not (is_connective ty when_true when_false && is_plain t ty e)
has_statements t (TypedExpr-F.Con place parts) e ty = not (is_number t ty)
has_statements t _ e ty = true

-- nothing is written of a value that goes nowhere, unless it may raise
abbrev pub is_left_out : Target → Destination → TypedExpr → Bool
is_left_out t to.Nowhere e = not (may_raise t e)
is_left_out t _ e = false

abbrev pub value_built : Target → TypedExpr-F Part → Scope → Destination → Ty → ℕ → Made
value_built t layer scope to.Nowhere ty next = effects t layer scope ty next
value_built t layer scope into ty next = given into (layer_value t layer scope ty next)

abbrev pub layer_built : Target → TypedExpr-F Part → TypedExpr → Scope → Destination → Ty → ℕ → Made
layer_built t layer e scope into ty next =
    if is_left_out t into e then nothing next
    else (if has_statements t (out-TypedExpr e) e ty then form_built t layer scope into ty next else value_built t layer scope into ty next)

abbrev pub ways_step : Target → TypedExpr-F Part → Ways
ways_step t layer = record {
  build = λ scope. λ into. λ ty. λ next. layer_built t layer (roll-TypedExpr (map-TypedExpr Part TypedExpr tree_of layer)) scope into ty next;
  value = λ scope. λ ty. λ next. layer_value t layer scope ty next;
}

-- the statements that write the value of an expression of the type to a destination
abbrev pub built : Target → TypedExpr → Scope → Destination → Ty → ℕ → Made
built t e = (by_forms (ways_step t) e).build

-- the expression of C that has its value, behind statements
abbrev pub value : Target → TypedExpr → Scope → Ty → ℕ → Code
value t e = (by_forms (ways_step t) e).value

-- an expression beside the two ways in which it is written
abbrev pub part_of : Target → TypedExpr → Part
part_of t e = seen (ways_step t) e
