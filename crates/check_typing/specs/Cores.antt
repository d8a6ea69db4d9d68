-- The typed core of each form of expression, by those of its parts. Parentheses vanish.
use Rattle.std.specs.Prelude.{ℕ, ◌||◌, Bool, true, false, List, [], ◌∷◌, map, Some, None}
use Rattle.std.specs.List.{list_any}
use Rattle.hume_base.specs.declared.types.Ty.{Ty, Bool as BoolTy}
use Rattle.hume_model.specs.declared.core_tree.Op.{Op}
use Rattle.hume_model.specs.declared.core_tree.Op.TheVariants as op
use Rattle.hume_model.specs.declared.core_tree.PatC.{PatC}
use Rattle.typed_core.specs.declared.typed_tree.TypedExpr.{TypedExpr, Word, Var, Con, Tuple, Vect, Prim, Convert, Index, Update, If, Case, Let, Call, Raise}
use Rattle.check_typing.specs.Patterns.{CoredPat, literal_word, is_too_wide, is_no_char, word_of_truth}

-- a typed core, and whether a literal in it is out of the range of its type
abbrev pub Cored : Type 0
Cored = TypedExpr × Bool

-- the cores alone
abbrev pub cores : List Cored → List TypedExpr
cores parts = map (λ c. c.0) parts

-- a literal in one of them is out of range
abbrev pub some_too_wide : List Cored → Bool
some_too_wide parts = list_any (λ c. c.1) parts

-- an alternative of a `case`
abbrev pub CoredArm : Type 0
CoredArm = CoredPat × Cored

-- the alternatives alone
abbrev pub arm_cores : List CoredArm → List (PatC × TypedExpr)
arm_cores arms = map (λ arm. (arm.0.0, arm.1.0)) arms

-- a literal in the pattern or the body of one of them is out of range
abbrev pub some_arm_too_wide : List CoredArm → Bool
some_arm_too_wide arms = list_any (λ arm. arm.0.1 || arm.1.1) arms

-- `true` and `false`
abbrev pub truth_core : Bool → Cored
truth_core truth = (Word (word_of_truth truth), false)

-- a letter, which is a literal too
abbrev pub letter_core : ℕ → Cored
letter_core byte = (Word byte, is_no_char byte)

-- a number literal of the type
abbrev pub literal_core : Bool → ℕ → Ty → Cored
literal_core negative amount ty = (Word (literal_word negative amount), is_too_wide negative amount ty)

-- a variable by its number
abbrev pub variable_core : ℕ → Cored
variable_core number = (Var number, false)

-- `let`, with the type of what is bound
abbrev pub let_core : Ty → Cored → Cored → Cored
let_core of part body = (Let of part.0 body.0, part.1 || body.1)

-- `if`
abbrev pub if_core : Cored → Cored → Cored → Cored
if_core test when_true when_false = (If test.0 when_true.0 when_false.0, test.1 || (when_true.1 || when_false.1))

-- `and`: where the left one is false the right one isn't asked
abbrev pub and_core : Cored → Cored → Cored
and_core left right = if_core left right (truth_core false)

-- `or`: where the left one is true the right one isn't asked
abbrev pub or_core : Cored → Cored → Cored
or_core left right = if_core left (truth_core true) right

-- an operation on two operands of the type
abbrev pub operation_core : Op → Ty → Cored → Cored → Cored
operation_core operation ty left right = (Prim operation ty (left.0 ∷ right.0 ∷ []), left.1 || right.1)

-- `-` before a part of the type
abbrev pub neg_core : Ty → Cored → Cored
neg_core ty part = (Prim op.Neg ty (part.0 ∷ []), part.1)

-- `not`
abbrev pub not_core : Cored → Cored
not_core part = (Prim op.Not BoolTy (part.0 ∷ []), part.1)

-- `as`, with the types of the operand and of the result
abbrev pub convert_core : Ty → Ty → Cored → Cored
convert_core from to part = (Convert from to part.0, part.1)

-- `@`, with the types of the vector and of the place
abbrev pub index_core : Ty → Ty → Cored → Cored → Cored
index_core of places vector place = (Index of places vector.0 place.0, vector.1 || place.1)

-- `update`, with the types of the vector and of the place
abbrev pub update_core : Ty → Ty → Cored → Cored → Cored → Cored
update_core of places vector place item = (Update of places vector.0 place.0 item.0, vector.1 || (place.1 || item.1))

-- `case`, with the type of the values that are matched
abbrev pub case_core : Ty → Cored → List CoredArm → Cored
case_core of part arms = (Case of part.0 (arm_cores arms), part.1 || some_arm_too_wide arms)

-- an exception by its number
abbrev pub raise_core : ℕ → Cored
raise_core exn = (Raise exn None, false)

-- an exception with what it carries
abbrev pub raise_with_core : ℕ → Cored → Cored
raise_with_core exn part = (Raise exn (Some part.0), part.1)

-- a function by its number
abbrev pub call_core : ℕ → List Cored → Cored
call_core number parts = (Call number (cores parts), some_too_wide parts)

-- a constructor by its place
abbrev pub con_core : ℕ → List Cored → Cored
con_core place parts = (Con place (cores parts), some_too_wide parts)

-- a tuple
abbrev pub tuple_core : List Cored → Cored
tuple_core parts = (Tuple (cores parts), some_too_wide parts)

-- a vector
abbrev pub vector_core : List Cored → Cored
vector_core parts = (Vect (cores parts), some_too_wide parts)
