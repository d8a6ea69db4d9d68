-- What expressions mean: the value that they give, and the place of the object that they name. `None` says that C gives no meaning.
-- They write nothing: a function that is called within an expression may write its own objects alone, so no order of evaluation matters.
use Rattle.std.specs.Prelude.{ℕ, Bool, true, false, not, pos, neg_ℤ, List, [], ◌∷◌, Option, Some, None, if◌then◌else◌}
use Rattle.std.specs.Int.RustNames.{int_lt, unsigned_abs}
use Rattle.c_tree.specs.declared.tree.CType.{CType}
use Rattle.c_tree.specs.declared.tree.CType.TheVariants as ctype
use Rattle.c_tree.specs.declared.tree.CExp.{CExp, fold-CExp}
use Rattle.c_tree.specs.declared.tree.CExp.TheOpen.{CExp-F}
use Rattle.c_tree.specs.Words.{bits}
use Rattle.c_meaning.specs.Numbers.{NumberType, Truth, Signed, Unsigned, CNumber, and_then, same_type, is_true, converted, promoted}
use Rattle.c_meaning.specs.Operators.{truth, unsigned_constant, signed_constant, negated, operated}
use Rattle.c_meaning.specs.Objects.{Object, Scalar, Member, Element}
use Rattle.c_meaning.specs.Memories.{Place, Value, Numeric, Pointer, Memory, Named, Variable, Pointing, Constant, Scope, Rights}
use Rattle.c_meaning.specs.Memories.{named, read_at, value_of, declares, inner_place}

-- How a call ends: with a value, if the function gives one, and what it leaves. `None` has no meaning.
pub record Ended : Type 0 where
  pub value : Option Value
  pub memory : Memory

-- what a function does with its arguments
abbrev pub Function : Type 0
Function = Rights → List Value → Memory → Option Ended

-- a name that is not declared has none
abbrev pub Functions : Type 0
Functions = List ℕ → Option Function

-- an object of the type of that name, unset
abbrev pub Types : Type 0
Types = List ℕ → Option Object

-- What an expression is evaluated with: the bits of `int`, what is declared, what is in scope, what may be written, and the memory.
pub record Context : Type 0 where
  pub int : ℕ
  pub types : Types
  pub functions : Functions
  pub scope : Scope
  pub rights : Rights
  pub memory : Memory

-- What an expression means. Beside its value and its place: the type that it is a cast to, and the call that it is, with the values of
-- its arguments.
pub record Meant : Type 0 where
  pub value : Context → Option Value
  pub place : Context → Option Place
  pub cast : Option CType
  pub call : Option (List ℕ × (Context → Option (List Value)))

-- ---- types

-- 7.18.1.1, 7.16, 6.7.7: an object of the type, unset
abbrev pub blank : Types → CType → Option Object
blank types ctype.Bool = Some (Scalar Truth None)
blank types (ctype.Signed width) = Some (Scalar (Signed (bits width)) None)
blank types (ctype.Unsigned width) = Some (Scalar (Unsigned (bits width)) None)
blank types (ctype.Named name) = types name

abbrev pub type_in : Object → Option NumberType
type_in (Scalar ty number) = Some ty
type_in _ = None

-- the type of numbers that a type is
abbrev pub number_type : Types → CType → Option NumberType
number_type types type = and_then (blank types type) type_in

abbrev pub is_one_type : Option NumberType → Option NumberType → Bool
is_one_type (Some left) (Some right) = same_type left right
is_one_type _ _ = false

-- ---- objects and names

-- 6.3.2.1: what is read of the object that an expression names
abbrev pub read_value : Context → Option Place → Option Value
read_value context place = and_then (and_then place (read_at context.memory)) value_of

abbrev pub number_of : Option Value → Option CNumber
number_of (Some (Numeric x)) = Some x
number_of _ = None

abbrev pub numeric : Option CNumber → Option Value
numeric x = and_then x (λ number. Some (Numeric number))

-- 6.5.1: the name of an object gives what is in it, and that of a pointer the pointer. 6.4.4.3, 6.7.2.2: a constant of an enumeration is an
-- `int`, which has to hold it.
abbrev pub named_value : Context → Option Named → Option Value
named_value context (Some (Variable place)) = read_value context (Some place)
named_value context (Some (Pointing place)) = Some (Pointer place)
named_value context (Some (Constant number)) = numeric (converted (Signed context.int) number)
named_value context None = None

abbrev pub variable_place : Option Named → Option Place
variable_place (Some (Variable place)) = Some place
variable_place _ = None

-- 6.5.3.2: `*` before a pointer
abbrev pub pointed_place : Option Named → Option Place
pointed_place (Some (Pointing place)) = Some place
pointed_place _ = None

-- 6.5.2.3
abbrev pub member_place : List ℕ → Option Place → Option Place
member_place name place = and_then place (λ whole. Some (inner_place whole (Member name)))

-- 6.5.2.1: what lies before an array has no meaning. What lies behind it isn't read, written or pointed to.
abbrev pub element_place : Option CNumber → Option Place → Option Place
element_place index place = and_then place (λ whole. and_then index (λ x.
    if int_lt x.number (pos 0) then None else Some (inner_place whole (Element (unsigned_abs x.number)))))

-- 6.5.3.2: an address is that of an object that is there
abbrev pub address : Context → Option Place → Option Value
address context place = and_then place (λ it. if declares context.memory it then Some (Pointer it) else None)

-- ---- calls

abbrev pub values_of : List Meant → Context → Option (List Value)
values_of [] context = Some []
values_of (part ∷ parts) context = and_then (part.value context) (λ first. and_then (values_of parts context) (λ others. Some (first ∷ others)))

-- 6.5.2.2: the value of a call within an expression. 6.5: C doesn't say in which order operands are evaluated, so the function may write no
-- object that was there before, and call no hook: it only computes.
abbrev pub called : List ℕ → Context → Option (List Value) → Option Value
called name context arguments = and_then arguments (λ values. and_then (context.functions name) (λ function.
    and_then (function (Some context.memory.count) values context.memory) (λ ended. ended.value)))

-- ---- operators

-- 6.5.4: a cast is to a type of numbers
abbrev pub cast_number : Context → CType → Option CNumber → Option CNumber
cast_number context type x = and_then (number_type context.types type) (λ ty. and_then x (λ number. converted ty number.number))

abbrev pub as_truth : ℕ → Option CNumber → Option CNumber
as_truth int x = and_then x (λ number. Some (truth int (is_true number.number)))

-- 6.5.13: `&&` evaluates no operand behind one that is 0. Where there is one operand no `&&` is written.
abbrev pub all_of : List Meant → Context → Option CNumber
all_of [] context = Some (truth context.int true)
all_of (part ∷ []) context = number_of (part.value context)
all_of (part ∷ (second ∷ others)) context = and_then (number_of (part.value context)) (λ x.
    if is_true x.number then as_truth context.int (all_of (second ∷ others) context) else Some (truth context.int false))

-- 6.5.14: `||` evaluates no operand behind one that is not 0
abbrev pub any_of : List Meant → Context → Option CNumber
any_of [] context = Some (truth context.int false)
any_of (part ∷ []) context = number_of (part.value context)
any_of (part ∷ (second ∷ others)) context = and_then (number_of (part.value context)) (λ x.
    if is_true x.number then Some (truth context.int true) else as_truth context.int (any_of (second ∷ others) context))

-- whether both are casts to one type
abbrev pub one_cast : Context → Option CType → Option CType → Bool
one_cast context (Some left) (Some right) = is_one_type (number_type context.types left) (number_type context.types right)
one_cast context _ _ = false

-- 6.5.15: `test ? first : second` evaluates one of both, and converts it to their common type. Both have to be casts to one type, so that
-- the type of the other one needn't be asked for: the common type is this one, promoted.
abbrev pub choice : Context → Option CNumber → Meant → Meant → Option CNumber
choice context test first second = and_then test (λ t. if one_cast context first.cast second.cast
    then and_then (number_of (if is_true t.number then first.value context else second.value context)) (λ x. converted (promoted context.int x.ty) x.number)
    else None)

-- ---- forms

-- an expression that gives a number
abbrev pub giving : (Context → Option CNumber) → Meant
giving number = record { value = λ context. numeric (number context); place = λ context. None; cast = None; call = None }

-- an expression that names an object
abbrev pub standing : (Context → Option Place) → Meant
standing place = record { value = λ context. read_value context (place context); place = place; cast = None; call = None }

-- one level of an expression, by what its parts mean
abbrev pub mean_expression : CExp-F Meant → Meant
-- 7.16: `true` and `false`
mean_expression (CExp-F.Truth holds) = giving (λ context. Some (truth context.int holds))
-- 6.4.4.1, 7.18.4
mean_expression (CExp-F.Unsigned width amount) = giving (λ context. unsigned_constant context.int width amount)
mean_expression (CExp-F.Signed width negative amount) =
    giving (λ context. signed_constant context.int width (if negative then neg_ℤ (pos amount) else pos amount))
-- 6.5.1
mean_expression (CExp-F.Name name) = record {
  value = λ context. named_value context (named name context.scope);
  place = λ context. variable_place (named name context.scope);
  cast = None;
  call = None;
}
-- 6.5.3.2
mean_expression (CExp-F.Pointed name) = standing (λ context. pointed_place (named name context.scope))
-- 6.5.2.3
mean_expression (CExp-F.Member object name) = standing (λ context. member_place name (object.place context))
-- 6.5.2.1
mean_expression (CExp-F.Element array index) = standing (λ context. element_place (number_of (index.value context)) (array.place context))
-- 6.5.2.2
mean_expression (CExp-F.Call name arguments) = record {
  value = λ context. called name context (values_of arguments context);
  place = λ context. None;
  cast = None;
  call = Some (name, values_of arguments);
}
-- 6.5.4
mean_expression (CExp-F.Cast type part) = record {
  value = λ context. numeric (cast_number context type (number_of (part.value context)));
  place = λ context. None;
  cast = Some type;
  call = None;
}
-- 6.5.3.3
mean_expression (CExp-F.Negate part) = giving (λ context. and_then (number_of (part.value context)) (negated context.int))
mean_expression (CExp-F.Not part) =
    giving (λ context. and_then (number_of (part.value context)) (λ x. Some (truth context.int (not (is_true x.number)))))
-- 6.5.3.2
mean_expression (CExp-F.Address part) = record {
  value = λ context. address context (part.place context);
  place = λ context. None;
  cast = None;
  call = None;
}
-- 6.5.5 to 6.5.12
mean_expression (CExp-F.Binary operator left right) = giving (λ context. and_then (number_of (left.value context)) (λ x.
    and_then (number_of (right.value context)) (operated context.int operator x)))
-- 6.5.13
mean_expression (CExp-F.All parts) = giving (all_of parts)
-- 6.5.14
mean_expression (CExp-F.Any parts) = giving (any_of parts)
-- 6.5.15
mean_expression (CExp-F.Choice test first second) =
    giving (λ context. choice context (number_of (test.value context)) first second)

-- what an expression means
abbrev pub meant : CExp → Meant
meant = fold-CExp Meant mean_expression
