-- Constants and operators: the number that each gives, of which type, and where C gives no meaning (`None`).
use Rattle.std.specs.Prelude.{ℕ, ◌^◌, nat_lt, ◌&&◌, ◌||◌, Bool, ℤ, pos, neg_ℤ, ◌+ℤ◌, ◌-ℤ◌, ◌*ℤ◌, Option, Some, None, if◌then◌else◌}
use Rattle.std.specs.Int.RustNames.{int_lt, int_le, int_div, int_rem, unsigned_abs}
use Rattle.std.specs.Int.Bits.{bit_and, bit_or}
use Rattle.c_tree.specs.declared.tree.Width.{Width}
use Rattle.c_tree.specs.declared.tree.COp.{COp}
use Rattle.c_tree.specs.declared.tree.COp.TheVariants as op
use Rattle.c_tree.specs.Words.{bits, is_wide}
use Rattle.c_meaning.specs.Numbers.{NumberType, Truth, Signed, Unsigned, CNumber, and_then, of_type, holds, is_true, converted, promoted, common}

-- 6.5.8, 6.5.9, 6.5.13, 6.5.14, 6.5.3.3: comparisons and logical operators give an `int`, 1 or 0. 7.16: so do `true` and `false`.
abbrev pub truth : ℕ → Bool → CNumber
truth int holds = of_type (Signed int) (if holds then pos 1 else pos 0)

-- ---- constants

-- 6.4.4.1: a constant without a macro is an `int` or an `unsigned int`, which have 16 bits at least. 7.18.4.1: one by a macro of `stdint.h`
-- has the type of its width, promoted, and a macro is used from 32 bits on.
abbrev pub constant_bits : ℕ → Width → ℕ
constant_bits int width = if is_wide width then bits width else int

-- a constant as it is written: its width holds it
abbrev pub held : NumberType → NumberType → ℤ → Option CNumber
held written ty number = if holds written number then Some (of_type ty number) else None

-- `12u` and `UINT32_C(12)`: what the width doesn't hold has no meaning
abbrev pub unsigned_constant : ℕ → Width → ℕ → Option CNumber
unsigned_constant int width amount = held (Unsigned (bits width)) (Unsigned (constant_bits int width)) (pos amount)

-- `12`, `-12`, `INT32_C(12)` and, for the least number, `INT32_MIN` (7.18.2.1)
abbrev pub signed_constant : ℕ → Width → ℤ → Option CNumber
signed_constant int width number = held (Signed (bits width)) (Signed (constant_bits int width)) number

-- ---- one operand

-- 6.5.3.3: the operand is promoted
abbrev pub negated : ℕ → CNumber → Option CNumber
negated int x = converted (promoted int x.ty) (neg_ℤ x.number)

-- ---- two operands that have got their common type

-- 6.5.5: a quotient is cut off towards 0. By 0, and where the type doesn't hold the quotient, there is no meaning.
abbrev pub divided : NumberType → ℤ → ℤ → Option CNumber
divided ty x y = if is_true y then converted ty (int_div x y) else None

-- 6.5.5: (x / y) * y + x % y is x, if the quotient has a meaning
abbrev pub rest : NumberType → ℤ → ℤ → Option CNumber
rest ty x y = and_then (divided ty x y) (λ quotient. converted ty (int_rem x y))

-- 6.5.10, 6.5.12: bit by bit. 6.5: the bits of negative numbers depend on the implementation: no meaning here.
abbrev pub bitwise : (ℕ → ℕ → ℕ) → NumberType → ℤ → ℤ → Option CNumber
bitwise operate ty x y =
    if int_lt x (pos 0) || int_lt y (pos 0) then None else converted ty (pos (operate (unsigned_abs x) (unsigned_abs y)))

-- 6.5: where a signed type doesn't hold what comes, there is no meaning: it overflows. 6.2.5: an unsigned type takes it modulo.
abbrev pub operated_at : ℕ → COp → NumberType → ℤ → ℤ → Option CNumber
operated_at int op.Multiply ty x y = converted ty (x *ℤ y)
operated_at int op.Divide ty x y = divided ty x y
operated_at int op.Remainder ty x y = rest ty x y
operated_at int op.Add ty x y = converted ty (x +ℤ y)
operated_at int op.Subtract ty x y = converted ty (x -ℤ y)
operated_at int op.BitAnd ty x y = bitwise bit_and ty x y
operated_at int op.BitOr ty x y = bitwise bit_or ty x y
operated_at int op.Equal ty x y = Some (truth int (int_le x y && int_le y x))
operated_at int op.NotEqual ty x y = Some (truth int (int_lt x y || int_lt y x))
operated_at int op.Less ty x y = Some (truth int (int_lt x y))
operated_at int op.LessEqual ty x y = Some (truth int (int_le x y))
operated_at int op.Greater ty x y = Some (truth int (int_lt y x))
operated_at int op.GreaterEqual ty x y = Some (truth int (int_le y x))
-- shifts have no common type
operated_at int op.ShiftLeft ty x y = None
operated_at int op.ShiftRight ty x y = None

-- ---- shifts

abbrev pub size_of : NumberType → ℕ
size_of Truth = 1
size_of (Signed size) = size
size_of (Unsigned size) = size

-- 6.5.7: each operand is promoted, and the left one gives the type. By a negative number of places, or by as many as the type has bits, there
-- is no meaning, nor for a negative number; where a signed type doesn't hold what comes, neither.
abbrev pub shifted : ℕ → (ℤ → ℕ → ℤ) → CNumber → CNumber → Option CNumber
shifted int shift x y =
    if int_lt x.number (pos 0) || int_lt y.number (pos 0) then None
    else (if nat_lt (unsigned_abs y.number) (size_of (promoted int x.ty)) then converted (promoted int x.ty) (shift x.number (unsigned_abs y.number)) else None)

abbrev pub shift_left : ℤ → ℕ → ℤ
shift_left number places = number *ℤ pos (2 ^ places)

abbrev pub shift_right : ℤ → ℕ → ℤ
shift_right number places = int_div number (pos (2 ^ places))

-- ----

-- 6.3.1.8: an operation on two numbers, each converted to their common type
abbrev pub on_common : ℕ → COp → CNumber → CNumber → Option CNumber
on_common int operator x y =
    and_then (converted (common int x.ty y.ty) x.number) (λ left. and_then (converted (common int x.ty y.ty) y.number)
    (λ right. operated_at int operator (common int x.ty y.ty) left.number right.number))

-- an operation on two numbers
abbrev pub operated : ℕ → COp → CNumber → CNumber → Option CNumber
operated int op.ShiftLeft x y = shifted int shift_left x y
operated int op.ShiftRight x y = shifted int shift_right x y
operated int operator x y = on_common int operator x y

-- the type of what an operation gives
abbrev pub operation_type : ℕ → COp → NumberType → NumberType → NumberType
operation_type int op.Multiply left right = common int left right
operation_type int op.Divide left right = common int left right
operation_type int op.Remainder left right = common int left right
operation_type int op.Add left right = common int left right
operation_type int op.Subtract left right = common int left right
operation_type int op.BitAnd left right = common int left right
operation_type int op.BitOr left right = common int left right
operation_type int op.ShiftLeft left right = promoted int left
operation_type int op.ShiftRight left right = promoted int left
operation_type int comparison left right = Signed int
