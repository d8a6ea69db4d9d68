-- Which lines are texts of a value.
use Rattle.std.specs.Prelude.{◌≡◌, ℕ, nat_le, ◌==◌, ◌&&◌, ◌||◌, not, Bool, true, ℤ, pos, neg_ℤ, List, [], ◌∷◌, Option, Some, None, if◌then◌else◌}
use Rattle.std.specs.Str.Parse.{digits_value}
use Rattle.hume_base.specs.declared.types.Ty.{Ty}
use Rattle.hume_base.specs.declared.types.Value.{Value}
use Rattle.hume_base.specs.declared.types.Types.{Types}
use Rattle.hume_base.specs.Values.{is_value}
use Rattle.hume_text.specs.Spelling.{Piece, Space, Open, Close, OpenVector, CloseVector, Comma, Name, Number, Letter, spelling}

-- a space or a tab
abbrev pub is_blank : ℕ → Bool
is_blank byte = (byte == 32) || (byte == 9)

-- a digit 0 to 9
abbrev pub is_digit : ℕ → Bool
is_digit byte = nat_le 48 byte && nat_le byte 57

-- a letter a to z or A to Z
abbrev pub is_letter : ℕ → Bool
is_letter byte = (nat_le 97 byte && nat_le byte 122) || (nat_le 65 byte && nat_le byte 90)

-- a letter, a digit or `_`
abbrev pub is_name_byte : ℕ → Bool
is_name_byte byte = is_letter byte || is_digit byte || (byte == 95)

-- the bytes from the front on that pass the test, as many as there are
abbrev pub front : (ℕ → Bool) → List ℕ → List ℕ
front test [] = []
front test (byte ∷ bytes) = if test byte then byte ∷ front test bytes else []

-- the bytes behind them
abbrev pub behind : (ℕ → Bool) → List ℕ → List ℕ
behind test [] = []
behind test (byte ∷ bytes) = if test byte then behind test bytes else byte ∷ bytes

-- the number that digits write
abbrev pub number_of : List ℕ → ℕ
number_of digits = digits_value 10 digits

-- a token at the front of a line, and the bytes behind it
abbrev pub Cut : Type 0
Cut = Option (Piece × List ℕ)

-- the token, if its second byte is this one
abbrev pub second : ℕ → Piece → List ℕ → Cut
second wanted piece [] = None
second wanted piece (byte ∷ bytes) = if byte == wanted then Some (piece, bytes) else None

-- a digit, and all digits that follow it
abbrev pub digits_at : (ℕ → ℤ) → List ℕ → Cut
digits_at signed [] = None
digits_at signed (byte ∷ bytes) =
    if is_digit byte then Some (Number (signed (number_of (byte ∷ front is_digit bytes))), behind is_digit bytes) else None

-- the character that a byte behind a backslash stands for
abbrev pub escaped : ℕ → Option ℕ
escaped byte =
    if byte == 110 then Some 10
    else (if byte == 116 then Some 9
    else (if (byte == 92) || (byte == 39) then Some byte
    else None))

-- the character, if a quote follows it
abbrev pub closed_letter : Option ℕ → List ℕ → Cut
closed_letter None bytes = None
closed_letter (Some letter) bytes = second 39 (Letter letter) bytes

-- the character of an escape, and the quote behind it
abbrev pub escape_at : List ℕ → Cut
escape_at [] = None
escape_at (byte ∷ bytes) = closed_letter (escaped byte) bytes

-- the character, an escape or a byte 32 to 126 but a quote, and the quote behind it
abbrev pub letter_at : List ℕ → Cut
letter_at [] = None
letter_at (byte ∷ bytes) =
    if byte == 92 then escape_at bytes
    else (if nat_le 32 byte && nat_le byte 126 && not (byte == 39) then second 39 (Letter byte) bytes else None)

-- the token that begins with these bytes, taken as long as it goes
abbrev pub token_at : List ℕ → Cut
token_at [] = None
token_at (byte ∷ bytes) =
    if is_letter byte then Some (Name (byte ∷ front is_name_byte bytes), behind is_name_byte bytes)
    else (if is_digit byte then digits_at pos (byte ∷ bytes)
    else (if byte == 45 then digits_at (λ n. neg_ℤ (pos n)) bytes
    else (if byte == 39 then letter_at bytes
    else (if byte == 40 then Some (Open, bytes)
    else (if byte == 41 then Some (Close, bytes)
    else (if byte == 44 then Some (Comma, bytes)
    else (if byte == 60 then second 60 OpenVector bytes
    else (if byte == 62 then second 62 CloseVector bytes
    else None))))))))

-- the next token of a line, behind any spaces and tabs
abbrev pub next : List ℕ → Cut
next line = token_at (behind is_blank line)

-- the tokens of a spelling come one after another on a line, and the rest is behind them
abbrev pub Cuts : List ℕ → List Piece → List ℕ → Type 0
Cuts line [] rest = line ≡ rest
Cuts line (Space ∷ pieces) rest = Cuts line pieces rest
Cuts line (token ∷ pieces) rest = (after : List ℕ) × (next line ≡ Some (token, after)) × Cuts after pieces rest

-- a line, without its newline and one carriage return before that, is the tokens of the value's spelling, with any spaces and
-- tabs before, between and behind them
pub record IsTextOf (types : Types) (ty : Ty) (line : List ℕ) (value : Value) : Type 0 where
  pub rest : List ℕ
  pub tokens : Cuts line (spelling types ty value) rest
  pub blank : behind is_blank rest ≡ []

-- the line is a text of a value of the type
pub record IsReadable (types : Types) (ty : Ty) (line : List ℕ) : Type 0 where
  pub value : Value
  pub typed : is_value types ty value ≡ true
  pub text : IsTextOf types ty line value
