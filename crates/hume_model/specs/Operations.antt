-- What operations give: the exact result, wrapped to the bits of the type.
use Rattle.std.specs.Prelude.{ℕ, ◌-◌, ◌^◌, ◌==◌, not, Bool, min, nat_le, ◌&&◌, ℤ, pos, neg_ℤ, ◌+ℤ◌, ◌-ℤ◌, ◌*ℤ◌, List, [], ◌∷◌, Option, Some, None, if◌then◌else◌, slice_get, slice_set}
use Rattle.std.specs.Int.{int_rem_euclid}
use Rattle.std.specs.Int.RustNames.{int_lt, int_le, int_div, int_rem, unsigned_abs}
use Rattle.hume_base.specs.declared.limits.TheConstants.{MAX_WIDTH}
use Rattle.hume_base.specs.declared.types.Ty.{Ty, out-Ty}
use Rattle.hume_base.specs.declared.types.Ty.TheOpen.{Ty-F}
use Rattle.hume_base.specs.declared.types.Value.{Value, Word, Vector, out-Value}
use Rattle.hume_base.specs.Flat.{word_of_value, parts_in}
use Rattle.hume_base.specs.Words.{int_of, word_of}
use Rattle.hume_model.specs.declared.core_tree.Op.{Op}
use Rattle.hume_model.specs.declared.core_tree.Op.TheVariants.{Add, Sub, Mul, Div, Mod, Neg, Not, Convert, Eq, Ne, Lt, Le, Gt, Ge}
use Rattle.hume_model.specs.declared.outcome.Outcome.{Outcome}
use Rattle.hume_model.specs.declared.outcome.Outcome.TheVariants.{Gives}
use Rattle.hume_model.specs.Outcomes.{div_zero, out_of_range}

-- the least number from 0 on that differs from this one by a multiple of 2 to the bits
abbrev pub low_bits : ℕ → ℤ → ℤ
low_bits bits number = int_rem_euclid number (pos (2 ^ bits))

-- the number of `int` with so many bits, by its low bits
abbrev pub from_low : ℕ → ℤ → ℤ
from_low bits low = if int_lt low (pos (2 ^ (bits - 1))) then low else low -ℤ pos (2 ^ bits)

-- the number of `int` with so many bits that differs from this one by a multiple of 2 to the bits
abbrev pub wrapped : ℕ → ℤ → ℤ
wrapped bits number = from_low bits (low_bits bits number)

-- the number that a word stands for at a type
abbrev pub number_at : Ty-F Ty → ℕ → ℤ
number_at (Ty-F.Int bits) word = int_of word
number_at _ word = pos word

-- the word at a type of the number, wrapped to the bits of the type; no type has more than a word
abbrev pub word_at : Ty-F Ty → ℤ → ℕ
word_at (Ty-F.Int bits) number = word_of (wrapped (min bits MAX_WIDTH) number)
word_at (Ty-F.Nat bits) number = unsigned_abs (low_bits (min bits MAX_WIDTH) number)
word_at _ number = unsigned_abs (low_bits MAX_WIDTH number)

-- the word of the number at the type
abbrev pub gives_number : Ty-F Ty → ℤ → Outcome
gives_number ty number = Gives (Word (word_at ty number))

-- the word of a `bool`
abbrev pub gives_truth : Bool → Outcome
gives_truth holds = Gives (Word (if holds then 1 else 0))

-- what comes of a division by the word
abbrev pub unless_zero : ℕ → Outcome → Outcome
unless_zero word outcome = if word == 0 then div_zero else outcome

-- An operation on another number of operands than its own gives the word 0. No expression that has a type comes to this.
abbrev pub misapplied : Outcome
misapplied = Gives (Word 0)

-- The operation on the words of two operands of the type. Equal words stand for equal numbers. `div` goes towards 0, and
-- what `mod` leaves has the sign of the left operand.
abbrev pub binary : Op → Ty-F Ty → ℕ → ℕ → Outcome
binary Add ty left right = gives_number ty (number_at ty left +ℤ number_at ty right)
binary Sub ty left right = gives_number ty (number_at ty left -ℤ number_at ty right)
binary Mul ty left right = gives_number ty (number_at ty left *ℤ number_at ty right)
binary Div ty left right = unless_zero right (gives_number ty (int_div (number_at ty left) (number_at ty right)))
binary Mod ty left right = unless_zero right (gives_number ty (int_rem (number_at ty left) (number_at ty right)))
binary Neg ty left right = misapplied
binary Not ty left right = misapplied
binary Convert ty left right = misapplied
binary Eq ty left right = gives_truth (left == right)
binary Ne ty left right = gives_truth (not (left == right))
binary Lt ty left right = gives_truth (int_lt (number_at ty left) (number_at ty right))
binary Le ty left right = gives_truth (int_le (number_at ty left) (number_at ty right))
binary Gt ty left right = gives_truth (int_lt (number_at ty right) (number_at ty left))
binary Ge ty left right = gives_truth (int_le (number_at ty right) (number_at ty left))

-- The operation on one operand. A word differs by a multiple of 2 to the 64 from the number that it stands for at any
-- type, so that `Convert` may take it as it is.
abbrev pub unary : Op → Ty-F Ty → ℕ → Outcome
unary Add ty word = misapplied
unary Sub ty word = misapplied
unary Mul ty word = misapplied
unary Div ty word = misapplied
unary Mod ty word = misapplied
unary Neg ty word = gives_number ty (neg_ℤ (number_at ty word))
unary Not ty word = gives_truth (word == 0)
unary Convert ty word = gives_number ty (pos word)
unary Eq ty word = misapplied
unary Ne ty word = misapplied
unary Lt ty word = misapplied
unary Le ty word = misapplied
unary Gt ty word = misapplied
unary Ge ty word = misapplied

-- the operation on the values of its operands
abbrev pub prim : Op → Ty → List Value → Outcome
prim op ty [] = misapplied
prim op ty (operand ∷ []) = unary op (out-Ty ty) (word_of_value operand)
prim op ty (left ∷ right ∷ []) = binary op (out-Ty ty) (word_of_value left) (word_of_value right)
prim op ty (left ∷ right ∷ more ∷ others) = misapplied

-- whether there is such a place among so many, counted from 1
abbrev pub is_place : ℕ → ℕ → Bool
is_place count place = nat_le 1 place && nat_le place count

-- the element, if there is one
abbrev pub item_or_raise : Option Value → Outcome
item_or_raise None = out_of_range
item_or_raise (Some item) = Gives item

-- the element of a vector at a place
abbrev pub item_of : ℕ → Value → Value → Outcome
item_of count vector place =
    if is_place count (word_of_value place)
    then item_or_raise (slice_get (parts_in (out-Value vector)) (word_of_value place - 1))
    else out_of_range

-- the vector with another element at a place
abbrev pub updated : ℕ → Value → Value → Value → Outcome
updated count vector place item =
    if is_place count (word_of_value place)
    then Gives (Vector (slice_set (parts_in (out-Value vector)) (word_of_value place - 1) item))
    else out_of_range
