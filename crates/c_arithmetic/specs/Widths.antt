-- Numbers of Hume, and their types in C.
use Rattle.std.specs.Prelude.{ℕ, ◌-◌, ◌^◌, nat_le, nat_lt, Bool, true, false, Option, Some, None, if◌then◌else◌}
use Rattle.hume_base.specs.declared.types.Ty.{Ty, out-Ty}
use Rattle.hume_base.specs.declared.types.Ty.TheOpen.{Ty-F}
use Rattle.c_tree.specs.declared.tree.Width.{Width}
use Rattle.c_tree.specs.declared.tree.Width.TheVariants.{W32, W64}
use Rattle.c_tree.specs.declared.tree.CType.{CType}
use Rattle.c_tree.specs.declared.tree.CType.TheVariants as type
use Rattle.c_types.specs.Widths.{width_of}
use Rattle.c_arithmetic.specs.declared.functions.Numbers.{Numbers}

-- the numbers of `int` or of `nat` with so many bits
abbrev pub numbers_with : Bool → ℕ → Numbers
numbers_with signed bits = record { signed = signed; bits = bits }

-- the numbers of a type, if it is one of numbers; a letter is its byte
abbrev pub numbers_at : Ty-F Ty → Option Numbers
numbers_at (Ty-F.Int bits) = Some (numbers_with true bits)
numbers_at (Ty-F.Nat bits) = Some (numbers_with false bits)
numbers_at Ty-F.Char = Some (numbers_with false 8)
numbers_at _ = None

abbrev pub numbers_of : Ty → Option Numbers
numbers_of type = numbers_at (out-Ty type)

-- the type of C that they have
abbrev pub c_type : Numbers → CType
c_type numbers = if numbers.signed then type.Signed (width_of numbers.bits) else type.Unsigned (width_of numbers.bits)

-- the width in which they are added and multiplied
abbrev pub work : Numbers → Width
work numbers = if nat_le numbers.bits 32 then W32 else W64

-- the greatest number of so many bits
abbrev pub greatest : ℕ → ℕ
greatest bits = 2 ^ bits - 1

-- whether each number of the one is one of the other
abbrev pub is_within : Numbers → Numbers → Bool
is_within from to =
    if from.signed then (if to.signed then nat_le from.bits to.bits else false)
    else (if to.signed then nat_lt from.bits to.bits else nat_le from.bits to.bits)
