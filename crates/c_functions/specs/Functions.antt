-- How the functions of a core are written in C.
use Rattle.std.specs.Prelude.{ℕ, ◌+◌, not, ◌&&◌, ◌||◌, Bool, true, false, List, [], ◌∷◌, ◌++◌, codes, Option, Some, None, slice_get, if◌then◌else◌}
use Rattle.std.specs.List.{filter_map, list_all}
use Rattle.hume_base.specs.declared.types.Ty.{Ty}
use Rattle.hume_model.specs.declared.core_tree.Core.{Core}
use Rattle.hume_model.specs.declared.core_tree.FunC.{FunC}
use Rattle.hume_model.specs.declared.core_tree.PatC.{PatC}
use Rattle.hume_model.specs.declared.exceptions.TheConstants.{NO_CASE}
use Rattle.hume_model.specs.Completeness.{are_complete, is_irrefutable, last_passes}
use Rattle.hume_model.specs.Forms.{forms_of}
use Rattle.typed_core.specs.declared.typed_tree.TypedEquation.{TypedEquation}
use Rattle.c_tree.specs.declared.tree.Width.TheVariants.{W8}
use Rattle.c_tree.specs.declared.tree.Linkage.TheVariants.{Static}
use Rattle.c_tree.specs.declared.tree.Passing.{Passing}
use Rattle.c_tree.specs.declared.tree.Passing.TheVariants as passing
use Rattle.c_tree.specs.declared.tree.CType.{CType}
use Rattle.c_tree.specs.declared.tree.CType.TheVariants as type
use Rattle.c_tree.specs.declared.tree.CExp.{CExp}
use Rattle.c_tree.specs.declared.tree.CExp.TheVariants as exp
use Rattle.c_tree.specs.declared.tree.CStm.{CStm}
use Rattle.c_tree.specs.declared.tree.CStm.TheVariants as stm
use Rattle.c_tree.specs.declared.tree.CParameter.{CParameter}
use Rattle.c_tree.specs.declared.tree.CItem.{CItem}
use Rattle.c_tree.specs.declared.tree.CItem.TheVariants as item
use Rattle.c_names.specs.Names.{inner}
use Rattle.c_forms.specs.Expressions.{numbered}
use Rattle.c_forms.specs.Mentions.{mentions}
use Rattle.c_types.specs.Gathered.{Gathered}
use Rattle.c_analysis.specs.declared.setting.Called.{Called}
use Rattle.c_analysis.specs.Targets.{Target, is_number, type_of}
use Rattle.c_expressions.specs.declared.arms.Way.{Way}
use Rattle.c_expressions.specs.declared.made.Made.{Made}
use Rattle.c_expressions.specs.declared.made.Destination.{Destination}
use Rattle.c_expressions.specs.declared.made.Destination.TheVariants as to
use Rattle.c_expressions.specs.Expressions.{arm_built, built, no_arm, raised}
use Rattle.c_expressions.specs.Made.{made}
use Rattle.c_expressions.specs.Patterns.{Match, both, matched, matching}
use Rattle.c_functions.specs.declared.functions.Function.{Function}
use Rattle.c_functions.specs.declared.functions.Functions.{Functions}

-- ---- parameters

abbrev pub parameter_name : ℕ → List ℕ
parameter_name place = numbered (codes "p") (place + 1)

-- the object that a parameter is: a number, or what a pointer points to
abbrev pub parameter_object : Target → Ty → ℕ → CExp
parameter_object t ty place = if is_number t ty then exp.Name (parameter_name place) else exp.Pointed (parameter_name place)

abbrev pub is_used : List CStm → ℕ → Bool
is_used statements place = mentions (parameter_name place) statements

-- for the parameters from a place on, whether the statements use them
abbrev pub used_from : List CStm → ℕ → List Ty → List Bool
used_from statements place [] = []
used_from statements place (ty ∷ tys) = is_used statements place ∷ used_from statements (place + 1) tys

abbrev pub passing_of : Target → Ty → Passing
passing_of t ty = if is_number t ty then passing.Value else passing.Read

abbrev pub parameter : Target → ℕ → Ty → CParameter
parameter t place ty = record { ty = type_of t ty; passing = passing_of t ty; name = parameter_name place }

abbrev pub parameter_if : Target → ℕ → Ty → Option Bool → List CParameter
parameter_if t place ty (Some true) = parameter t place ty ∷ []
parameter_if t place ty _ = []

-- the parameters from a place on that are used
abbrev pub parameters_from : Target → List Bool → ℕ → List Ty → List CParameter
parameters_from t used place [] = []
parameters_from t used place (ty ∷ tys) = parameter_if t place ty (slice_get used place) ++ parameters_from t used (place + 1) tys

-- the pointer through which a function writes its result
abbrev pub out_parameter : Target → Ty → CParameter
out_parameter t ty = record { ty = type_of t ty; passing = passing.Written; name = codes "out" }

abbrev pub parameters : Target → FunC → List Bool → Bool → List CParameter
parameters t function used writes =
    parameters_from t used 0 function.params ++ (if writes then out_parameter t function.gives ∷ [] else [])

-- ---- equations

abbrev pub is_irrefutable_equation : TypedEquation → Bool
is_irrefutable_equation equation = list_all is_irrefutable equation.pats

abbrev pub are_complete_alone : Target → List Ty → List TypedEquation → Bool
are_complete_alone t (ty ∷ []) equations =
    are_complete t.file.types (forms_of ty) (filter_map (λ (equation : TypedEquation). slice_get equation.pats 0) equations)
are_complete_alone t _ equations = false

-- the equations leave no arguments out, as far as their forms tell
abbrev pub leave_none_out : Target → FunC → List TypedEquation → Bool
leave_none_out t function equations = last_passes is_irrefutable_equation equations || are_complete_alone t function.params equations

abbrev pub argument_match : Target → ℕ → Option Ty → PatC → Match
argument_match t place None pattern = matching [] []
argument_match t place (Some ty) pattern = matched t pattern ty (parameter_object t ty place)

-- the arguments from a place on, matched with patterns
abbrev pub arguments_match : Target → List Ty → ℕ → List PatC → Match
arguments_match t params place [] = matching [] []
arguments_match t params place (pattern ∷ patterns) =
    both (argument_match t place (slice_get params place) pattern) (arguments_match t params (place + 1) patterns)

-- the tests of an equation, and what it does where all of them hold
abbrev pub equation_way : Target → FunC → Destination → TypedEquation → ℕ → Way
equation_way t function into equation next =
    let found = arguments_match t function.params 0 equation.pats in
    record { tests = found.tests; made = built t equation.body found.objects into function.gives next }

-- the statements of the first equation that the arguments match
abbrev pub equations_built : Target → FunC → Destination → Bool → List TypedEquation → ℕ → Made
equations_built t function into complete [] next = made (raised t NO_CASE) next
equations_built t function into complete (equation ∷ others) next =
    let way = equation_way t function into equation next in
    arm_built way.tests (complete && no_arm others) way.made (equations_built t function into complete others way.made.next)

-- ---- a function

-- whether its result is a value of C: it is a number, and no exception takes its place
abbrev pub by_value : Target → FunC → Bool → Bool
by_value t function raises = not raises && is_number t function.gives

abbrev pub result_destination : Bool → Destination
result_destination is_value = if is_value then to.Returned else to.Place (exp.Pointed (codes "out"))

-- what a function does; where it may raise, it returns 0 behind a result
abbrev pub function_body : Target → FunC → Bool → List TypedEquation → List CStm
function_body t function raises equations =
    (equations_built t function (result_destination (by_value t function raises)) (leave_none_out t function equations) equations 1).statements
    ++ (if raises then stm.Return (Some (exp.Unsigned W8 0)) ∷ [] else [])

-- what calls need to know of a function with that body
abbrev pub called_of : Target → FunC → Bool → List CStm → Called
called_of t function raises body = record {
  name = inner t.file.names (codes "f_") function.name;
  raises = raises;
  gives = by_value t function raises || mentions (codes "out") body;
  used = used_from body 0 function.params;
}

abbrev pub result_type : Target → Ty → Bool → Option CType
result_type t gives raises = if raises then Some (type.Unsigned W8) else (if is_number t gives then Some (type_of t gives) else None)

abbrev pub declaration_of : Target → FunC → Called → List CStm → CItem
declaration_of t function called body = item.Function (record {
  comment = None;
  head = record {
    linkage = Static;
    result = result_type t function.gives called.raises;
    name = called.name;
    parameters = parameters t function called.used (called.gives && not (by_value t function called.raises));
  };
  body = body;
})

abbrev pub function_of : Target → FunC → Bool → List TypedEquation → Function
function_of t function raises equations =
    let body = function_body t function raises equations in
    let called = called_of t function raises body in
    record { item = declaration_of t function called body; called = called }

-- ---- all functions

abbrev pub with_function : Functions → Function → Functions
with_function before one = record { items = before.items ++ one.item ∷ []; called = before.called ++ one.called ∷ [] }

-- what a function sees, behind those that are written already
abbrev pub target_of : Core → Gathered → List Called → Target
target_of core file called = record { core = core; file = file; called = called }

-- a function that has trees, behind those before it
abbrev pub function_added : Core → Gathered → FunC → Option (List TypedEquation) → Option Bool → Functions → Functions
function_added core file function (Some equations) (Some raises) before =
    with_function before (function_of (target_of core file before.called) function raises equations)
function_added core file function _ _ before = before

-- the functions from a place on
abbrev pub functions_from : Core → Gathered → List Bool → List (List TypedEquation) → ℕ → List FunC → Functions → Functions
functions_from core file raises trees place [] before = before
functions_from core file raises trees place (function ∷ others) before =
    functions_from core file raises trees (place + 1) others (function_added core file function (slice_get trees place) (slice_get raises place) before)

-- the functions of a core, of which it is told which may raise
abbrev pub functions : Core → Gathered → List Bool → List (List TypedEquation) → Functions
functions core file raises trees = functions_from core file raises trees 0 core.funs (record { items = []; called = [] })
