-- Numbers of C: their types, and what becomes of them when they are converted. `int` has 16 or 32 bits, and each type of `stdint.h` has its
-- bits, in two's complement. A number carries its type, so what is promoted and converted is a question of values alone.
use Rattle.std.specs.Prelude.{◌≡◌, ℕ, ◌*◌, ◌^◌, ◌==◌, max, nat_lt, nat_le, ◌&&◌, ◌||◌, Bool, true, false, ℤ, pos, ◌+ℤ◌, Option, Some, None, if◌then◌else◌}
use Rattle.std.specs.Int.RustNames.{int_lt, int_le}
use Rattle.std.specs.Int.{int_rem_euclid}
use Rattle.hume_base.specs.Values.{is_int_of}

-- 6.2.5, 7.18.1.1: a type of numbers: `bool`, or a signed or an unsigned one of so many bits. Types of one size and one sign have the same
-- numbers, so it makes no difference here which of them is `int`.
pub data NumberType : Type 0 where
  Truth : NumberType
  Signed : ℕ → NumberType
  Unsigned : ℕ → NumberType

-- a number, with the type of the expression that it comes from
pub record CNumber : Type 0 where
  pub ty : NumberType
  pub number : ℤ

abbrev pub of_type : NumberType → ℤ → CNumber
of_type ty number = record { ty = ty; number = number }

-- what comes of something, and no meaning where there is nothing
abbrev pub and_then : {A B : Type 0} → Option A → (A → Option B) → Option B
and_then None next = None
and_then (Some x) next = next x

abbrev pub same_type : NumberType → NumberType → Bool
same_type Truth Truth = true
same_type (Signed left) (Signed right) = left == right
same_type (Unsigned left) (Unsigned right) = left == right
same_type _ _ = false

-- 6.2.5, 6.2.6.2: whether the number is one of the type
abbrev pub holds : NumberType → ℤ → Bool
holds Truth number = int_le (pos 0) number && int_lt number (pos 2)
holds (Unsigned size) number = int_le (pos 0) number && int_lt number (pos (2 ^ size))
holds (Signed size) number = is_int_of size number

-- 6.8.4.1, 6.5.3.3, 6.5.13 to 6.5.15: any number but 0 is true
abbrev pub is_true : ℤ → Bool
is_true number = int_lt number (pos 0) || int_lt (pos 0) number

-- 6.3.1.2: `bool` takes 0 or 1, for whether the number is 0. 6.3.1.3: an unsigned type of so many bits takes the number modulo 2 to their
-- power; a signed one keeps the number if it holds it, and else the implementation says what comes: no meaning here.
abbrev pub converted : NumberType → ℤ → Option CNumber
converted Truth number = Some (of_type Truth (if is_true number then pos 1 else pos 0))
converted (Unsigned size) number = Some (of_type (Unsigned size) (int_rem_euclid number (pos (2 ^ size))))
converted (Signed size) number = if holds (Signed size) number then Some (of_type (Signed size) number) else None

-- 6.3.1.1: the integer promotions, where `int` has so many bits. A type whose numbers all are numbers of `int` becomes `int`.
abbrev pub promoted : ℕ → NumberType → NumberType
promoted int Truth = Signed int
promoted int (Signed size) = Signed (max size int)
promoted int (Unsigned size) = if nat_lt size int then Signed int else Unsigned size

-- 6.3.1.8: the type of two promoted operands together. Of one sign, the larger type; else the unsigned one if it is as large as the signed
-- one, and the signed one if that is larger, since it then holds the numbers of the other.
abbrev pub together : NumberType → NumberType → NumberType
together (Signed left) (Signed right) = Signed (max left right)
together (Unsigned left) (Unsigned right) = Unsigned (max left right)
together (Signed left) (Unsigned right) = if nat_le left right then Unsigned right else Signed left
together (Unsigned left) (Signed right) = if nat_le right left then Unsigned left else Signed right
-- promoted operands are no `bool`
together Truth right = right
together left Truth = left

-- 6.3.1.8: the usual arithmetic conversions: the common type of two operands
abbrev pub common : ℕ → NumberType → NumberType → NumberType
common int left right = together (promoted int left) (promoted int right)

-- two numbers that an unsigned type of so many bits takes for one: they differ by a multiple of 2 to their power
pub record AreCongruent (size : ℕ) (x y : ℤ) : Type 0 where
  pub more : ℕ
  pub less : ℕ
  pub is : x +ℤ pos (more * 2 ^ size) ≡ y +ℤ pos (less * 2 ^ size)
