-- Operations on operands, and conversions.
use Rattle.std.specs.Prelude.{ℕ, ◌-◌, ◌+◌, ◌==◌, not, ◌&&◌, ◌||◌, Bool, true, false, List, [], ◌∷◌, Option, Some, None, is_some, if◌then◌else◌}
use Rattle.hume_base.specs.declared.types.Ty.{Ty}
use Rattle.hume_model.specs.declared.core_tree.Op.{Op}
use Rattle.hume_model.specs.declared.core_tree.Op.TheVariants as operation
use Rattle.c_tree.specs.declared.tree.CType.TheVariants as type
use Rattle.c_tree.specs.declared.tree.COp.{COp}
use Rattle.c_tree.specs.declared.tree.COp.TheVariants as op
use Rattle.c_tree.specs.declared.tree.CExp.{CExp, out-CExp}
use Rattle.c_tree.specs.declared.tree.CExp.TheOpen.{CExp-F}
use Rattle.c_tree.specs.declared.tree.CExp.TheVariants as exp
use Rattle.c_tree.specs.Words.{bits}
use Rattle.c_forms.specs.Same.{is_same}
use Rattle.c_names.specs.declared.names.Names.{Names}
use Rattle.c_types.specs.Widths.{width_of}
use Rattle.c_arithmetic.specs.declared.functions.Helper.{Helper}
use Rattle.c_arithmetic.specs.declared.functions.Helper.TheVariants as helper
use Rattle.c_arithmetic.specs.declared.functions.Numbers.{Numbers}
use Rattle.c_arithmetic.specs.Widths.{numbers_of, c_type, work, greatest, is_within}
use Rattle.c_arithmetic.specs.Bodies.{helper_name}

-- ---- calls of functions

abbrev pub arguments : CExp → Option CExp → List CExp
arguments left None = left ∷ []
arguments left (Some right) = left ∷ right ∷ []

abbrev pub helped_with : Names → Helper → CExp → Option CExp → Option Numbers → CExp
helped_with names which left right None = left
helped_with names which left right (Some numbers) = exp.Call (helper_name names which numbers) (arguments left right)

-- the call of a function for the numbers of the type
abbrev pub helped : Names → Helper → Ty → CExp → Option CExp → CExp
helped names which ty left right = helped_with names which left right (numbers_of ty)

-- ---- comparisons

abbrev pub is_constant : CExp-F CExp → Bool
is_constant (CExp-F.Unsigned width amount) = true
is_constant (CExp-F.Signed width negative amount) = true
is_constant _ = false

-- what a cast brings back to its type: it comes of numbers of that type, or of a choice between them
abbrev pub is_computed : CExp-F CExp → Bool
is_computed (CExp-F.Binary operator left right) = true
is_computed (CExp-F.Choice test first second) = true
is_computed _ = false

-- a number of a narrower type, which a cast alone brings to its type
abbrev pub is_widened : CExp-F CExp → Bool
is_widened (CExp-F.Cast type part) = not (is_computed (out-CExp part))
is_widened _ = false

-- a number of a narrower type beside a constant, which may lie outside of that type
abbrev pub is_narrow : CExp → CExp → Bool
is_narrow number other = is_widened (out-CExp number) && is_constant (out-CExp other)

abbrev pub is_number : Ty → Bool
is_number ty = is_some (numbers_of ty)

-- Whether compilers may warn that a comparison always comes to the same: of an operand with itself, or of a number of a narrower type with
-- a constant.
abbrev pub is_foregone : Ty → CExp → CExp → Bool
is_foregone ty left right = is_same left right || (is_number ty && (is_narrow left right || is_narrow right left))

abbrev pub same_with : Names → CExp → CExp → Option Numbers → CExp
same_with names left right None = exp.Truth true
same_with names left right (Some numbers) = exp.Call (helper_name names helper.Equal numbers) (left ∷ right ∷ [])

-- Whether two operands are the same. A function compares numbers where compilers warn of the comparison; another operand is the same as itself.
abbrev pub equality : Names → Ty → CExp → CExp → CExp
equality names ty left right = if is_foregone ty left right then same_with names left right (numbers_of ty) else exp.Binary op.Equal left right

-- whether two operands differ
abbrev pub inequality : Names → Ty → CExp → CExp → CExp
inequality names ty left right =
    if is_foregone ty left right then exp.Not (equality names ty left right) else exp.Binary op.NotEqual left right

abbrev pub is_zero : CExp-F CExp → Bool
is_zero (CExp-F.Unsigned width amount) = amount == 0
is_zero _ = false

-- whether it is the constant of the least or the greatest number of a type of C
abbrev pub is_end : ℕ → CExp-F CExp → Bool
is_end size (CExp-F.Unsigned width amount) = (amount == 0) || (amount == greatest size)
is_end size (CExp-F.Signed width true amount) = amount == greatest (size - 1) + 1
is_end size (CExp-F.Signed width false amount) = amount == greatest (size - 1)
is_end size _ = false

-- whether a type of C has so many bits
abbrev pub is_c_width : ℕ → Bool
is_c_width size = (size == 8) || (size == 16) || (size == 32) || (size == 64)

abbrev pub is_extreme_with : CExp → Option Numbers → Bool
is_extreme_with it None = false
is_extreme_with it (Some numbers) =
    if is_c_width numbers.bits then is_end numbers.bits (out-CExp it) else is_zero (out-CExp it)

-- whether a comparison with it could say the same of all numbers of the C type
abbrev pub is_extreme : Ty → CExp → Bool
is_extreme ty it = is_extreme_with it (numbers_of ty)

abbrev pub is_plain : Ty → CExp → CExp → Bool
is_plain ty left right = not (is_extreme ty left || is_extreme ty right || is_foregone ty left right)

abbrev pub comparing : Names → Ty → COp → CExp → CExp → CExp
comparing names ty op.Less left right = helped names helper.Less ty left (Some right)
comparing names ty op.LessEqual left right = helped names helper.LessEqual ty left (Some right)
comparing names ty op.Greater left right = helped names helper.Less ty right (Some left)
comparing names ty _ left right = helped names helper.LessEqual ty right (Some left)

-- a comparison. One that compilers warn of goes to a function.
abbrev pub compared : Names → Ty → COp → CExp → CExp → CExp
compared names ty operator left right =
    if is_plain ty left right then exp.Binary operator left right else comparing names ty operator left right

-- ---- operations

-- an operation on two operands
abbrev pub operation_of_two : Names → Op → Ty → CExp → CExp → CExp
operation_of_two names operation.Not ty left right = exp.Not left
operation_of_two names operation.Neg ty left right = helped names helper.Neg ty left None
operation_of_two names operation.Add ty left right = helped names helper.Add ty left (Some right)
operation_of_two names operation.Sub ty left right = helped names helper.Sub ty left (Some right)
operation_of_two names operation.Mul ty left right = helped names helper.Mul ty left (Some right)
operation_of_two names operation.Eq ty left right = equality names ty left right
operation_of_two names operation.Ne ty left right = inequality names ty left right
operation_of_two names operation.Lt ty left right = compared names ty op.Less left right
operation_of_two names operation.Le ty left right = compared names ty op.LessEqual left right
operation_of_two names operation.Gt ty left right = compared names ty op.Greater left right
operation_of_two names operation.Ge ty left right = compared names ty op.GreaterEqual left right
operation_of_two names _ ty left right = left

-- an operation on one operand
abbrev pub operation_of_one : Names → Op → Ty → CExp → CExp
operation_of_one names operation.Not ty part = exp.Not part
operation_of_one names operation.Neg ty part = helped names helper.Neg ty part None
operation_of_one names _ ty part = part

-- an operation that isn't a division
abbrev pub operation_of : Names → Op → Ty → CExp → Option CExp → CExp
operation_of names operator ty left None = operation_of_one names operator ty left
operation_of names operator ty left (Some right) = operation_of_two names operator ty left right

-- ---- divisions

abbrev pub may_be_minus_one : Option ℕ → Bool
may_be_minus_one None = true
may_be_minus_one (Some word) = word == greatest 64

abbrev pub divide : Op → COp
divide operation.Div = op.Divide
divide _ = op.Remainder

abbrev pub dividing : Op → Helper
dividing operation.Div = helper.Div
dividing _ = helper.Mod

abbrev pub quotient_with : Names → Op → CExp → CExp → Option ℕ → Option Numbers → CExp
quotient_with names operator left right literal None = left
quotient_with names operator left right literal (Some numbers) =
    if numbers.signed && may_be_minus_one literal then exp.Call (helper_name names (dividing operator) numbers) (left ∷ right ∷ [])
    else exp.Cast (c_type numbers) (exp.Binary (divide operator) left right)

-- a quotient or a rest, by a divisor whose word is given where it is literal
abbrev pub quotient : Names → Op → Ty → CExp → CExp → Option ℕ → CExp
quotient names operator ty left right literal = quotient_with names operator left right literal (numbers_of ty)

-- ---- conversions

abbrev pub same_sign : Numbers → Numbers → Bool
same_sign from to = if from.signed then to.signed else not to.signed

abbrev pub same_c_type : Numbers → Numbers → Bool
same_c_type from to = same_sign from to && (bits (width_of from.bits) == bits (width_of to.bits))

abbrev pub converted : Names → Numbers → Numbers → CExp → CExp
converted names from to part =
    if is_within from to then (if same_c_type from to then part else exp.Cast (c_type to) part)
    else exp.Call (helper_name names helper.To to) (exp.Cast (type.Unsigned (work to)) part ∷ [])

abbrev pub conversion_with : Names → Option Numbers → Option Numbers → CExp → CExp
conversion_with names (Some from) (Some to) part = converted names from to part
conversion_with names _ _ part = part

-- a number of the first type as one of the second
abbrev pub conversion : Names → Ty → Ty → CExp → CExp
conversion names from to part = conversion_with names (numbers_of from) (numbers_of to) part
