-- What statements do. `Undefined` says that C gives no meaning.
use Rattle.std.specs.Prelude.{ℕ, zero, suc, ◌+◌, ◌==◌, Bool, true, false, ◌&&◌, if◌then◌else◌, ℤ, pos, List, [], ◌∷◌, map, Option, Some, None}
use Rattle.std.specs.Option.{is_some}
use Rattle.std.specs.Int.RustNames.{int_le, unsigned_abs}
use Rattle.c_tree.specs.declared.tree.COp.{COp}
use Rattle.c_tree.specs.declared.tree.COp.TheVariants as op
use Rattle.c_tree.specs.declared.tree.CExp.{CExp}
use Rattle.c_tree.specs.declared.tree.CVariable.{CVariable}
use Rattle.c_tree.specs.declared.tree.CCount.{CCount}
use Rattle.c_tree.specs.declared.tree.CStm.{CStm, fold-CStm}
use Rattle.c_tree.specs.declared.tree.CStm.TheOpen.{CStm-F}
use Rattle.c_meaning.specs.Numbers.{Signed, CNumber, and_then, of_type, holds, is_true, converted, promoted}
use Rattle.c_meaning.specs.Operators.{operated}
use Rattle.c_meaning.specs.Objects.{Object, Scalar, Step, with_number, in_place_of, lie_apart, same_step}
use Rattle.c_meaning.specs.Memories.{Place, Value, Numeric, Whole, Pointer, Memory, Variable, Constant, Scope, named, changed_at, with_object}
use Rattle.c_meaning.specs.Memories.{made, next_place, left_with}
use Rattle.c_meaning.specs.Expressions.{Ended, Context, blank, number_of, values_of, meant}

-- How statements end: they go on, leave the loop or the `switch` around them, or return from their function.
pub data Out : Type 0 where
  Goes : Context → Out
  Leaves : Context → Out
  Returns : Option Value → Memory → Out
  Undefined : Out

-- what a statement does
abbrev pub Doing : Type 0
Doing = Context → Out

abbrev pub and_go : Out → Doing → Out
and_go (Goes context) next = next context
and_go (Leaves context) next = Leaves context
and_go (Returns value memory) next = Returns value memory
and_go Undefined next = Undefined

abbrev pub defined : {A : Type 0} → Option A → (A → Out) → Out
defined None next = Undefined
defined (Some x) next = next x

abbrev pub in_memory : Context → Memory → Context
in_memory context memory = record context { memory = memory }

-- ---- blocks

-- 6.8.2
abbrev pub in_turn : List Doing → Doing
in_turn [] context = Goes context
in_turn (first ∷ others) context = and_go (first context) (in_turn others)

-- 6.2.1, 6.2.4: at the end of a block its names and its objects are gone
abbrev pub left_block : Context → Context → Context
left_block before after = record after { scope = before.scope; memory = left_with before.memory.count after.memory }

abbrev pub ended_block : Context → Out → Out
ended_block before (Goes after) = Goes (left_block before after)
ended_block before (Leaves after) = Leaves (left_block before after)
ended_block before (Returns value memory) = Returns value memory
ended_block before Undefined = Undefined

abbrev pub block : List Doing → Doing
block parts context = ended_block context (in_turn parts context)

-- ---- what stands by itself and may write

-- 6.5.2.2: the call of a function, which may write and call hooks as far as the caller may
abbrev pub call_ended : List ℕ → Context → Option (List Value) → Option Ended
call_ended name context arguments =
    and_then arguments (λ values. and_then (context.functions name) (λ function. function context.rights values context.memory))

abbrev pub unchanged : Context → Option Value → Option Ended
unchanged context value = and_then value (λ it. Some (record { value = Some it; memory = context.memory }))

abbrev pub ended_as : Context → Option (List ℕ × (Context → Option (List Value))) → Option Value → Option Ended
ended_as context None value = unchanged context value
ended_as context (Some (name, arguments)) value = call_ended name context (arguments context)

-- What an expression gives that is the whole right side of an assignment, the first value of a variable, or what is returned, and the memory
-- then. If it is a call, nothing else is evaluated beside it, so the function may write.
abbrev pub ended : CExp → Context → Option Ended
ended exp context = ended_as context (meant exp).call ((meant exp).value context)

-- 6.5.16.1: the object with the value assigned to it: a number, or a whole struct of its type
abbrev pub with_value : Value → Object → Option Object
with_value (Numeric x) old = with_number x old
with_value (Whole new) old = in_place_of new old
with_value (Pointer place) old = None

abbrev pub same_path : List Step → List Step → Bool
same_path [] [] = true
same_path (left ∷ lefts) (right ∷ rights) = if same_step left right then same_path lefts rights else false
same_path _ _ = false

abbrev pub same_place : Place → Place → Bool
same_place left right = if left.block == right.block then same_path left.path right.path else false

-- 6.5.16.1: what is read straight from one object may be put to another that lies apart from it
abbrev pub may_copy : Memory → Place → Option Place → Bool
may_copy memory to None = true
may_copy memory to (Some from) =
    if to.block == from.block then lie_apart to.path from.path (memory.objects to.block) else true

abbrev pub assigned : Context → Place → Ended → Out
assigned context place it = defined it.value (λ value.
    defined (changed_at context.rights it.memory place (with_value value)) (λ memory. Goes (in_memory context memory)))

abbrev pub one_place : Place → Option Place → Bool
one_place place None = false
one_place place (Some later) = same_place place later

-- 6.5.16: in `a = b` C doesn't say which side is evaluated first, so the place has to be one both before and after a call
abbrev pub assign : CExp → CExp → Doing
assign object exp context = defined ((meant object).place context) (λ place. defined (ended exp context) (λ it.
    if one_place place ((meant object).place (in_memory context it.memory))
    then (if may_copy context.memory place ((meant exp).place context) then assigned context place it else Undefined)
    else Undefined))

-- 6.5.2.4: `x++` and `x--`: the number changed by one, converted to the type of its object
abbrev pub stepped : COp → CExp → Doing
stepped operator object context = defined ((meant object).place context) (λ place.
    defined (number_of ((meant object).value context)) (λ x. defined (operated context.int operator x (of_type (Signed context.int) (pos 1))) (λ new.
    defined (changed_at context.rights context.memory place (with_number new)) (λ memory. Goes (in_memory context memory)))))

-- 6.8.3: a call by itself, whose value is dropped
abbrev pub call_statement : List ℕ → List CExp → Doing
call_statement name arguments context =
    defined (call_ended name context (values_of (map meant arguments) context)) (λ it. Goes (in_memory context it.memory))

-- ---- declarations

-- the context with one more object, of that name
abbrev pub with_name : Context → List ℕ → Object → Bool → Context
with_name context name object constant = record context {
  scope = (name, Variable (next_place context.memory constant)) ∷ context.scope;
  memory = made context.memory object;
}

-- 6.7: a name that is in scope is not declared anew here
abbrev pub add_variable : CVariable → Object → Doing
add_variable variable object context =
    if is_some (named variable.name context.scope) then Undefined else Goes (with_name context variable.name object variable.constant)

-- 6.7.8: a variable without a first value is unset
abbrev pub declare : CVariable → Doing
declare variable context = defined (blank context.types variable.ty) (λ object. add_variable variable object context)

-- 6.7.8: a first value is converted as by an assignment
abbrev pub define : CVariable → CExp → Doing
define variable exp context = defined (blank context.types variable.ty) (λ old. defined (ended exp context) (λ it.
    defined it.value (λ value. defined (with_value value old) (λ object. add_variable variable object (in_memory context it.memory)))))

-- ---- choices

abbrev pub test_number : CExp → Context → Option CNumber
test_number exp context = number_of ((meant exp).value context)

-- 6.8.4.1: the statements of the first test that is not 0, and else those of the `else`
abbrev pub chosen : List (CExp × List Doing) → List Doing → Doing
chosen [] otherwise context = block otherwise context
chosen ((test, body) ∷ others) otherwise context =
    defined (test_number test context) (λ x. if is_true x.number then block body context else chosen others otherwise context)

-- the constants of enumerations alone
abbrev pub constants : Scope → Scope
constants [] = []
constants ((name, Constant number) ∷ others) = (name, Constant number) ∷ constants others
constants ((name, _) ∷ others) = constants others

-- 6.6: a constant expression is evaluated without objects and functions
abbrev pub constant_number : CExp → Context → Option CNumber
constant_number exp context = number_of ((meant exp).value
    (record context { functions = λ name. None; scope = constants context.scope; memory = left_with 0 context.memory }))

abbrev pub same_number : ℤ → ℤ → Bool
same_number x y = int_le x y && int_le y x

-- 6.8.4.2: the constant of a case is converted to the promoted type of what is switched by. A `break` ends the statements of a case.
abbrev pub case_of : List (CExp × List Doing) → List Doing → CNumber → Doing
case_of [] otherwise x context = block otherwise context
case_of ((label, body) ∷ others) otherwise x context = defined (constant_number label context) (λ constant.
    defined (converted (promoted context.int x.ty) constant.number) (λ it.
    if same_number x.number it.number then block body context else case_of others otherwise x context))

-- 6.8.6.3: a `break` in a case, or the one behind it, ends the `switch`
abbrev pub after_cases : Out → Out
after_cases (Leaves context) = Goes context
after_cases out = out

-- ---- loops

-- 6.8.6.3: a `break` ends the loop
abbrev pub next_round : Out → Doing → Out
next_round (Leaves context) next = Goes context
next_round out next = and_go out next

abbrev pub counted_at : ℕ → Object → Object
counted_at i (Scalar ty old) = Scalar ty (Some (pos i))
counted_at i object = object

abbrev pub set_count : Place → Object → ℕ → Context → Context
set_count place object i context = in_memory context (with_object context.memory place.block (counted_at i object))

-- so many rounds that are left, the next one with this count
abbrev pub rounds : ℕ → ℕ → Place → Object → List Doing → Doing
rounds zero i place object body context = Goes context
rounds (suc left) i place object body context =
    next_round (block body (set_count place object i context)) (rounds left (i + 1) place object body)

-- Whether the count's type holds the limit, as one of at least 0: else the count would overflow, or never reach the limit.
abbrev pub reaches : ℤ → Object → Bool
reaches limit (Scalar ty old) = int_le (pos 0) limit && holds ty limit
reaches limit _ = false

-- 6.8.5.3: the loop counts in a variable of its own up to a constant limit. As if the variable were `const`, the body doesn't write it.
abbrev pub loop : CCount → List Doing → Doing
loop count body context = defined (constant_number count.limit context) (λ limit. defined (blank context.types count.ty) (λ object.
    if reaches limit.number object
    then and_go (add_variable (record { constant = true; ty = count.ty; name = count.name }) object context)
    (rounds (unsigned_abs limit.number) 0 (next_place context.memory true) object body)
    else Undefined))

-- ---- forms

-- 6.8.6.4: the value is converted to the type of the function where the call ends
abbrev pub return : Option CExp → Doing
return None context = Returns None context.memory
return (Some exp) context = defined (ended exp context) (λ it. defined it.value (λ value. Returns (Some value) it.memory))

-- one level of a statement, by what its parts do
abbrev pub do_statement : CStm-F Doing → Doing
-- 6.4.9
do_statement (CStm-F.Comment text) context = Goes context
-- 6.7, 6.7.8
do_statement (CStm-F.Declare variable) context = declare variable context
do_statement (CStm-F.Define variable value) context = define variable value context
-- 6.5.16
do_statement (CStm-F.Assign object value) context = assign object value context
-- 6.5.2.4
do_statement (CStm-F.Increment object) context = stepped op.Add object context
do_statement (CStm-F.Decrement object) context = stepped op.Subtract object context
-- 6.8.3
do_statement (CStm-F.Call name arguments) context = call_statement name arguments context
-- 6.8.4.1
do_statement (CStm-F.If test body others otherwise) context = chosen ((test, body) ∷ others) otherwise context
-- 6.8.4.2
do_statement (CStm-F.Switch subject cases otherwise) context =
    defined (test_number subject context) (λ x. after_cases (case_of cases otherwise x context))
-- 6.8.5.3
do_statement (CStm-F.For count body) context = ended_block context (loop count body context)
-- 6.8.6.3
do_statement CStm-F.Break context = Leaves context
-- 6.8.6.4
do_statement (CStm-F.Return value) context = return value context

-- what a statement does
abbrev pub doing : CStm → Doing
doing = fold-CStm Doing do_statement
