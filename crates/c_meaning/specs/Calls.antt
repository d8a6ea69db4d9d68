-- How a function of the file is called: what its parameters stand for, what it does, and what it gives back.
use Rattle.std.specs.Prelude.{ℕ, Bool, true, false, List, [], ◌∷◌, Option, Some, None, if◌then◌else◌, map}
use Rattle.c_tree.specs.declared.tree.CType.{CType}
use Rattle.c_tree.specs.declared.tree.Passing.{Passing}
use Rattle.c_tree.specs.declared.tree.Passing.TheVariants as passing
use Rattle.c_tree.specs.declared.tree.CParameter.{CParameter}
use Rattle.c_tree.specs.declared.tree.CFunction.{CFunction}
use Rattle.c_meaning.specs.Numbers.{and_then}
use Rattle.c_meaning.specs.Objects.{Object, of_one_type}
use Rattle.c_meaning.specs.Memories.{Place, Value, Pointer, Memory, Pointing, read_declared, value_of, left_with}
use Rattle.c_meaning.specs.Expressions.{Ended, Function, Context, blank}
use Rattle.c_meaning.specs.Statements.{Out, Goes, Returns, in_turn, with_value, with_name, doing}

-- 6.3.2.3, 6.5.16.1: a pointer to an object of the parameter's type, through which it may be written only if it is not one to `const`
abbrev pub pointed : Bool → Place → Context → CParameter → Option Object → Object → Option Context
pointed constant place context parameter None wanted = None
pointed constant place context parameter (Some found) wanted =
    if of_one_type found wanted
    then Some (record context { scope = (parameter.name, Pointing (record place { constant = constant })) ∷ context.scope })
    else None

-- 6.5.2.2: an argument is put into an object of the parameter's own, as by an assignment. Of a pointer it is what it points to that counts
-- here: `const T *` for what the function reads, `T *` for what it writes, which is not `const`.
abbrev pub passed : Passing → CParameter → Value → Object → Context → Option Context
passed passing.Value parameter value wanted context =
    and_then (with_value value wanted) (λ object. Some (with_name context parameter.name object false))
passed passing.Read parameter (Pointer place) wanted context = pointed true place context parameter (read_declared context.memory place) wanted
passed passing.Written parameter (Pointer place) wanted context =
    if place.constant then None else pointed false place context parameter (read_declared context.memory place) wanted
passed _ parameter value wanted context = None

-- 6.5.2.2: an argument for each parameter
abbrev pub with_arguments : List CParameter → List Value → Context → Option Context
with_arguments [] [] context = Some context
with_arguments (parameter ∷ parameters) (value ∷ values) context = and_then (blank context.types parameter.ty) (λ wanted.
    and_then (passed parameter.passing parameter value wanted context) (with_arguments parameters values))
with_arguments _ _ context = None

-- 6.8.6.4: what is returned is converted to the type of the function, as by an assignment
abbrev pub given_back : Context → Option CType → Option Value → Option (Option Value)
given_back context None None = Some None
given_back context (Some type) (Some value) = and_then (blank context.types type) (λ object. and_then (with_value value object) (λ new. Some (value_of new)))
given_back context _ _ = None

abbrev pub ending : ℕ → Option Value → Memory → Ended
ending count value memory = record { value = value; memory = left_with count memory }

-- 6.8.6.4, 6.9.1: how a function ends: at its end if it gives no value, and else by a `return`. 6.2.4: its objects are gone.
abbrev pub ended_call : Context → ℕ → Option CType → Out → Option Ended
ended_call context count None (Goes after) = Some (ending count None after.memory)
ended_call context count result (Returns value memory) = and_then (given_back context result value) (λ it. Some (ending count it memory))
ended_call context count _ _ = None

-- 6.2.1: what the function does. Its names are its parameters and what the file declares before it.
abbrev pub function_of : Context → CFunction → Function
function_of file function rights values memory =
    and_then (with_arguments function.head.parameters values (record file { rights = rights; memory = memory })) (λ context.
    ended_call file memory.count function.head.result (in_turn (map doing function.body) context))
