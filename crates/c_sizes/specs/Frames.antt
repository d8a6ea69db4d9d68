-- How many bytes the variables of a function take, and which functions it calls: an upper bound, since all variables count that
-- its statements declare. What a compiler adds isn't counted: gaps between variables, saved registers, the return address.
use Rattle.std.specs.Prelude.{ℕ, Bool, ◌||◌, ◌==◌, nat_lt, Option, Some, None, List, fold, map, if◌then◌else◌}
use Rattle.std.specs.Option.{unwrap_or}
use Rattle.c_tree.specs.declared.tree.CType.{CType}
use Rattle.c_tree.specs.declared.tree.CExp.{CExp, fold-CExp}
use Rattle.c_tree.specs.declared.tree.CExp.TheOpen.{CExp-F}
use Rattle.c_tree.specs.declared.tree.CCount.{CCount}
use Rattle.c_tree.specs.declared.tree.CStm.{CStm, fold-CStm}
use Rattle.c_tree.specs.declared.tree.CStm.TheOpen.{CStm-F}
use Rattle.c_tree.specs.declared.tree.Passing.{Passing}
use Rattle.c_tree.specs.declared.tree.Passing.TheVariants.{Value, Read, Written}
use Rattle.c_tree.specs.declared.tree.CParameter.{CParameter}
use Rattle.c_tree.specs.declared.tree.CFunction.{CFunction}
use Rattle.c_sizes.specs.declared.bytes.Bytes.{Bytes}
use Rattle.c_sizes.specs.declared.frame.Deepest.{Deepest}
use Rattle.c_sizes.specs.declared.frame.Frame.{Frame}
use Rattle.c_sizes.specs.Bytes.{same, plus, greatest}
use Rattle.c_sizes.specs.Names.{known}
use Rattle.c_sizes.specs.Layout.{Types, type_layout}

-- the functions that a file has defined so far, each with its depth
abbrev pub Functions : Type 0
Functions = List (List ℕ × Deepest)

-- no call; the functions of a file have numbers from 1 on
abbrev pub no_call : Deepest
no_call = record { bytes = same 0; function = 0 }

-- whether the first is no call, or takes fewer bytes where numbers align to 8
abbrev pub is_deeper : Deepest → Deepest → Bool
is_deeper first second = (first.function == 0) || nat_lt first.bytes.eight second.bytes.eight

abbrev pub deeper : Deepest → Deepest → Deepest
deeper first second = record {
  bytes = greatest first.bytes second.bytes;
  function = if is_deeper first second then second.function else first.function;
}

-- A function that isn't defined before takes nothing.
abbrev pub function_called : Functions → List ℕ → Deepest
function_called functions name = unwrap_or (known name functions) no_call

abbrev pub deepest_of : List Deepest → Deepest
deepest_of calls = fold deeper no_call calls

abbrev pub call_of : Functions → List ℕ → List Deepest → Deepest
call_of functions name arguments = deeper (function_called functions name) (deepest_of arguments)

-- one level of an expression, with the deepest calls of its parts
abbrev pub calls_within : Functions → CExp-F Deepest → Deepest
calls_within functions (CExp-F.Truth holds) = no_call
calls_within functions (CExp-F.Unsigned width amount) = no_call
calls_within functions (CExp-F.Signed width negative amount) = no_call
calls_within functions (CExp-F.Name name) = no_call
calls_within functions (CExp-F.Pointed name) = no_call
calls_within functions (CExp-F.Member object name) = object
calls_within functions (CExp-F.Element array index) = deeper array index
calls_within functions (CExp-F.Call name arguments) = call_of functions name arguments
calls_within functions (CExp-F.Cast type part) = part
calls_within functions (CExp-F.Negate part) = part
calls_within functions (CExp-F.Not part) = part
calls_within functions (CExp-F.Address part) = part
calls_within functions (CExp-F.Binary operator left right) = deeper left right
calls_within functions (CExp-F.All parts) = deepest_of parts
calls_within functions (CExp-F.Any parts) = deepest_of parts
calls_within functions (CExp-F.Choice test first second) = deeper test (deeper first second)

-- the deepest call of an expression
abbrev pub expression_calls : Functions → CExp → Deepest
expression_calls functions = fold-CExp Deepest (calls_within functions)

abbrev pub no_frame : Frame
no_frame = record { variables = same 0; calls = no_call }

abbrev pub variable : Types → CType → Frame
variable types type = record { variables = (type_layout types type).size; calls = no_call }

abbrev pub calling : Deepest → Frame
calling calls = record { variables = same 0; calls = calls }

abbrev pub value_of : Functions → CExp → Frame
value_of functions exp = calling (expression_calls functions exp)

abbrev pub also : Frame → Frame → Frame
also first second = record { variables = plus first.variables second.variables; calls = deeper first.calls second.calls }

abbrev pub all_of : List Frame → Frame
all_of frames = fold also no_frame frames

abbrev pub arm_of : Functions → CExp × List Frame → Frame
arm_of functions arm = also (value_of functions arm.0) (all_of arm.1)

-- several arms, and the statements where none is taken
abbrev pub arms_of : Functions → List (CExp × List Frame) → List Frame → Frame
arms_of functions arms otherwise = also (all_of (map (arm_of functions) arms)) (all_of otherwise)

abbrev pub for_of : Types → Functions → CCount → List Frame → Frame
for_of types functions count body = also (variable types count.ty) (also (value_of functions count.limit) (all_of body))

abbrev pub return_of : Functions → Option CExp → Frame
return_of functions None = no_frame
return_of functions (Some value) = value_of functions value

-- one level of a statement, with the frames of its parts
abbrev pub frame_within : Types → Functions → CStm-F Frame → Frame
frame_within types functions (CStm-F.Comment text) = no_frame
frame_within types functions (CStm-F.Declare declared) = variable types declared.ty
frame_within types functions (CStm-F.Define declared value) = also (variable types declared.ty) (value_of functions value)
frame_within types functions (CStm-F.Assign object value) = also (value_of functions object) (value_of functions value)
frame_within types functions (CStm-F.Increment object) = value_of functions object
frame_within types functions (CStm-F.Decrement object) = value_of functions object
frame_within types functions (CStm-F.Call name arguments) = calling (call_of functions name (map (expression_calls functions) arguments))
frame_within types functions (CStm-F.If test body others otherwise) =
    also (arm_of functions (test, body)) (arms_of functions others otherwise)
frame_within types functions (CStm-F.Switch subject cases otherwise) =
    also (value_of functions subject) (arms_of functions cases otherwise)
frame_within types functions (CStm-F.For count body) = for_of types functions count body
frame_within types functions CStm-F.Break = no_frame
frame_within types functions (CStm-F.Return value) = return_of functions value

-- the variables that a statement declares, and its deepest call
abbrev pub statement_frame : Types → Functions → CStm → Frame
statement_frame types functions = fold-CStm Frame (frame_within types functions)

-- the bytes of a pointer, which grow with the alignment of the processor
abbrev pub pointer : Bytes
pointer = record { one = 2; two = 2; four = 4; eight = 8 }

abbrev pub passed : Types → Passing → CType → Bytes
passed types Value type = (type_layout types type).size
passed types Read type = pointer
passed types Written type = pointer

abbrev pub with_parameter : Types → Bytes → CParameter → Bytes
with_parameter types sum parameter = plus sum (passed types parameter.passing parameter.ty)

abbrev pub parameters_size : Types → List CParameter → Bytes
parameters_size types parameters = fold (with_parameter types) (same 0) parameters

abbrev pub function_frame : Types → Functions → CFunction → Frame
function_frame types functions function =
    let body = all_of (map (statement_frame types functions) function.body) in
    record { variables = plus (parameters_size types function.head.parameters) body.variables; calls = body.calls }

-- the bytes of a function: those of its own variables, and of its deepest call
abbrev pub depth : Frame → Bytes
depth frame = plus frame.variables frame.calls.bytes
