-- What is taken from the front of a line where a token of one kind is wanted.
use Rattle.std.specs.Prelude.{ℕ, ◌-◌, ◌==◌, ◌^◌, min, nat_le, ◌&&◌, not, Bool, true, false, ℤ, pos, neg_ℤ, List, [], ◌∷◌, Option, Some, None, if◌then◌else◌}
use Rattle.std.specs.Str.Parse.{digits_value}
use Rattle.hume_text.specs.Read.{is_blank, is_digit, is_letter, is_name_byte, front, behind, escaped}

-- the bytes behind this one
abbrev pub byte_at : ℕ → List ℕ → Option (List ℕ)
byte_at wanted [] = None
byte_at wanted (byte ∷ bytes) = if byte == wanted then Some bytes else None

-- behind a sign of one byte, and any spaces and tabs before it
abbrev pub sign_at : ℕ → List ℕ → Option (List ℕ)
sign_at wanted line = byte_at wanted (behind is_blank line)

abbrev pub again : ℕ → Option (List ℕ) → Option (List ℕ)
again wanted None = None
again wanted (Some bytes) = byte_at wanted bytes

-- behind a sign of the same byte twice
abbrev pub double_at : ℕ → List ℕ → Option (List ℕ)
double_at wanted line = again wanted (sign_at wanted line)

-- a name and the bytes behind it
abbrev pub name_at_front : List ℕ → Option (List ℕ × List ℕ)
name_at_front [] = None
name_at_front (byte ∷ bytes) = if is_letter byte then Some (byte ∷ front is_name_byte bytes, behind is_name_byte bytes) else None

abbrev pub name_on : List ℕ → Option (List ℕ × List ℕ)
name_on line = name_at_front (behind is_blank line)

-- a number whose digits may be many: whether it has a minus, and its digits' value, or 2^64 for any that is larger
abbrev pub capped : ℕ → ℕ
capped n = min n (2 ^ 64)

abbrev pub digits_on : Bool → List ℕ → Option ((Bool × ℕ) × List ℕ)
digits_on negative [] = None
digits_on negative (byte ∷ bytes) =
    if is_digit byte then Some ((negative, capped (digits_value 10 (byte ∷ front is_digit bytes))), behind is_digit bytes) else None

abbrev pub number_at_front : List ℕ → Option ((Bool × ℕ) × List ℕ)
number_at_front [] = None
number_at_front (byte ∷ bytes) = if byte == 45 then digits_on true bytes else digits_on false (byte ∷ bytes)

abbrev pub number_on : List ℕ → Option ((Bool × ℕ) × List ℕ)
number_on line = number_at_front (behind is_blank line)

-- the number with these digits and this sign
abbrev pub signed : Bool → ℕ → ℤ
signed true n = neg_ℤ (pos n)
signed false n = pos n

-- half of the numbers of an int that takes so many bits, and none more than 64
abbrev pub half_of : ℕ → ℕ
half_of bits = 2 ^ (min bits 64 - 1)

-- the largest digits' value that such an int has on its side of zero
abbrev pub most_of : ℕ → Bool → ℕ
most_of bits negative = if negative then half_of bits else half_of bits - 1

-- a character that its closing quote follows
abbrev pub closed : ℕ → Option (List ℕ) → Option (ℕ × List ℕ)
closed letter None = None
closed letter (Some rest) = Some (letter, rest)

abbrev pub closed_escape : Option ℕ → List ℕ → Option (ℕ × List ℕ)
closed_escape None bytes = None
closed_escape (Some letter) bytes = closed letter (byte_at 39 bytes)

abbrev pub escape_on : List ℕ → Option (ℕ × List ℕ)
escape_on [] = None
escape_on (byte ∷ bytes) = closed_escape (escaped byte) bytes

abbrev pub letter_on : List ℕ → Option (ℕ × List ℕ)
letter_on [] = None
letter_on (byte ∷ bytes) =
    if byte == 92 then escape_on bytes
    else (if nat_le 32 byte && nat_le byte 126 && not (byte == 39) then closed byte (byte_at 39 bytes) else None)
