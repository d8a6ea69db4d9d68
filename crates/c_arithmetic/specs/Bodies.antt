-- What the functions of arithmetic do.
use Rattle.std.specs.Prelude.{ℕ, ◌-◌, ◌+◌, ◌==◌, true, false, List, [], ◌∷◌, codes, Some, if◌then◌else◌}
use Rattle.c_tree.specs.declared.tree.CType.TheVariants as type
use Rattle.c_tree.specs.declared.tree.COp.{COp}
use Rattle.c_tree.specs.declared.tree.COp.TheVariants as op
use Rattle.c_tree.specs.declared.tree.CExp.{CExp}
use Rattle.c_tree.specs.declared.tree.CExp.TheVariants as exp
use Rattle.c_tree.specs.declared.tree.CStm.{CStm}
use Rattle.c_tree.specs.declared.tree.CStm.TheVariants as stm
use Rattle.c_tree.specs.Words.{bits}
use Rattle.c_forms.specs.Expressions.{choice, numbered}
use Rattle.c_forms.specs.Statements.{one_if, variable}
use Rattle.c_names.specs.Names.{inner}
use Rattle.c_names.specs.declared.names.Names.{Names}
use Rattle.c_types.specs.Widths.{width_of}
use Rattle.c_arithmetic.specs.declared.functions.Helper.{Helper}
use Rattle.c_arithmetic.specs.declared.functions.Helper.TheVariants as helper
use Rattle.c_arithmetic.specs.declared.functions.Numbers.{Numbers}
use Rattle.c_arithmetic.specs.Widths.{c_type, work, greatest}

-- ---- names

abbrev pub word_of : Helper → List ℕ
word_of helper.To = codes "to_"
word_of helper.Neg = codes "neg_"
word_of helper.Add = codes "add_"
word_of helper.Sub = codes "sub_"
word_of helper.Mul = codes "mul_"
word_of helper.Div = codes "div_"
word_of helper.Mod = codes "mod_"
word_of helper.Less = codes "less_"
word_of helper.LessEqual = codes "most_"
word_of helper.Equal = codes "same_"

abbrev pub sign_word : Numbers → List ℕ
sign_word numbers = if numbers.signed then codes "i" else codes "u"

-- `i8`, `u16`
abbrev pub type_word : Numbers → List ℕ
type_word numbers = numbered (sign_word numbers) numbers.bits

-- the name of a function
abbrev pub helper_name : Names → Helper → Numbers → List ℕ
helper_name names which numbers = inner names (word_of which) (type_word numbers)

-- ---- bits

abbrev pub u : CExp
u = exp.Name (codes "u")

abbrev pub low : CExp
low = exp.Name (codes "low")

-- `u`, but for the bits above those of the numbers
abbrev pub low_bits : Numbers → CExp
low_bits numbers =
    if bits (work numbers) == numbers.bits then u else exp.Binary op.BitAnd u (exp.Unsigned (work numbers) (greatest numbers.bits))

abbrev pub unsigned_low : Numbers → CExp
unsigned_low numbers = exp.Cast (c_type numbers) (if bits (width_of numbers.bits) == numbers.bits then u else low_bits numbers)

-- the bits of `low` turned
abbrev pub turned_low : Numbers → CExp
turned_low numbers = exp.Binary op.Subtract (exp.Unsigned (work numbers) (greatest numbers.bits)) low

-- -1 less them
abbrev pub negative_low : Numbers → CExp
negative_low numbers =
    exp.Binary op.Subtract (exp.Negate (exp.Cast (type.Signed (work numbers)) (turned_low numbers))) (exp.Signed (work numbers) false 1)

-- whether the highest bit isn't set
abbrev pub below_half : Numbers → CExp
below_half numbers = exp.Binary op.Less low (exp.Unsigned (work numbers) (greatest (numbers.bits - 1) + 1))

-- the number that the bits of `low` stand for in two's complement
abbrev pub signed_low : Numbers → CExp
signed_low numbers = choice (c_type numbers) (type.Signed (work numbers), type.Signed (work numbers)) (below_half numbers) low (negative_low numbers)

-- ---- bodies

abbrev pub returned : CExp → List CStm
returned it = stm.Return (Some it) ∷ []

abbrev pub signed_body : Numbers → List CStm
signed_body numbers = stm.Define (variable true (type.Unsigned (work numbers)) (codes "low")) (low_bits numbers) ∷ returned (signed_low numbers)

-- `a op b`
abbrev pub of_both : COp → CExp
of_both operator = exp.Binary operator (exp.Name (codes "a")) (exp.Name (codes "b"))

-- a parameter without its sign, in the width of the work
abbrev pub operand : Numbers → List ℕ → CExp
operand numbers parameter = exp.Cast (type.Unsigned (work numbers)) (exp.Name parameter)

-- a number without a sign brought back to the bits of the type
abbrev pub brought_back : Names → Numbers → CExp → List CStm
brought_back names numbers it = returned (exp.Call (helper_name names helper.To numbers) (it ∷ []))

abbrev pub wrapping : Names → Numbers → COp → List CStm
wrapping names numbers operator = brought_back names numbers (exp.Binary operator (operand numbers (codes "a")) (operand numbers (codes "b")))

abbrev pub opposite : Numbers → CExp
opposite numbers = exp.Binary op.Subtract (exp.Unsigned (work numbers) 0) (operand numbers (codes "a"))

abbrev pub is_minus_one : Numbers → CExp
is_minus_one numbers = exp.Binary op.Equal (exp.Name (codes "b")) (exp.Signed (width_of numbers.bits) true 1)

-- a quotient or a rest of numbers with a sign, and by -1 another value
abbrev pub divided : Numbers → COp → CExp → List CStm
divided numbers operator by_minus_one =
    one_if (is_minus_one numbers) (returned by_minus_one) ∷ returned (exp.Cast (c_type numbers) (of_both operator))

abbrev pub body : Names → Helper → Numbers → List CStm
body names helper.To numbers = if numbers.signed then signed_body numbers else returned (unsigned_low numbers)
body names helper.Neg numbers = brought_back names numbers (opposite numbers)
body names helper.Add numbers = wrapping names numbers op.Add
body names helper.Sub numbers = wrapping names numbers op.Subtract
body names helper.Mul numbers = wrapping names numbers op.Multiply
body names helper.Div numbers = divided numbers op.Divide (exp.Call (helper_name names helper.Neg numbers) (exp.Name (codes "a") ∷ []))
body names helper.Mod numbers = divided numbers op.Remainder (exp.Signed (width_of numbers.bits) false 0)
body names helper.Less numbers = returned (of_both op.Less)
body names helper.LessEqual numbers = returned (of_both op.LessEqual)
body names helper.Equal numbers = returned (of_both op.Equal)
