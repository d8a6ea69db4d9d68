-- What is asked of a type, by what is seen of it.
use Rattle.std.specs.Prelude.{◌≡◌, length, Some, ℕ, ◌^◌, ◌&&◌, nat_le, Bool, true, false, ℤ, pos}
use Rattle.std.specs.Int.RustNames.{int_le, int_lt}
use Rattle.hume_base.specs.declared.limits.TheConstants.{MAX_WIDTH}
use Rattle.hume_base.specs.Values.{is_int_of}
use Rattle.hume_base.specs.declared.types.Ty.{Ty}
use Rattle.check_typing.specs.Partial.{given}
use Rattle.check_typing.specs.inner.Walk.{tuple_parts}
use Rattle.hume_model.specs.declared.core_tree.Op.{Op}
use Rattle.hume_model.specs.declared.core_tree.Op.TheVariants.{Add, Sub, Mul, Div, Mod, Neg, Not, Convert, Eq, Ne, Lt, Le, Gt, Ge}
use Rattle.check_scopes.specs.declared.types.shape.Shape.{Shape}
use Rattle.check_scopes.specs.declared.types.shape.Shape.TheVariants as shape

abbrev pub is_width : ℕ → Bool
is_width bits = nat_le 1 bits && nat_le bits MAX_WIDTH

abbrev pub is_number : Shape → Bool
is_number (shape.Int bits) = is_width bits
is_number (shape.Nat bits) = is_width bits
is_number _ = false

abbrev pub is_ordered : Shape → Bool
is_ordered shape.Char = true
is_ordered s = is_number s

abbrev pub is_scalar : Shape → Bool
is_scalar shape.Bool = true
is_scalar s = is_ordered s

abbrev pub has_comparison : Op → Shape → Bool
has_comparison Eq s = is_scalar s
has_comparison Ne s = is_scalar s
has_comparison Lt s = is_ordered s
has_comparison Le s = is_ordered s
has_comparison Gt s = is_ordered s
has_comparison Ge s = is_ordered s
has_comparison _ s = false

-- the number is one of a type that is seen so
abbrev pub has_number : ℤ → Shape → Bool
has_number number (shape.Int bits) = is_int_of bits number
has_number number (shape.Nat bits) = int_le (pos 0) number && int_lt number (pos (2 ^ bits))
has_number number _ = false

-- a tuple of so many parts
abbrev pub HasParts : ℕ → Ty → Type 0
HasParts count ty = given (tuple_parts ty) (λ tys. Some (length tys)) ≡ Some count
