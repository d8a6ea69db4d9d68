-- How each kind of token is written.
use Rattle.std.specs.Prelude.{◌≡◌, ◌≢◌, ℕ, ◌+◌, ◌*◌, ◌-◌, ◌<◌, ◌≤◌, ◌==◌, nat_le, Bool, true, not, ◌&&◌, ◌||◌, if◌then◌else◌, List, [], ◌∷◌, ◌++◌, length, fold, codes}
use Rattle.std.specs.List.{AllByRecursion}
use Rattle.hume_base.specs.Keywords.{keyword_text}
use Rattle.hume_base.specs.Symbols.{symbol_text}
use Rattle.hume_base.specs.declared.keyword.Keyword.{Keyword}
use Rattle.hume_base.specs.declared.limits.TheConstants.{MAX_PORT_NAME_BYTES}
use Rattle.hume_base.specs.declared.token.Kind.{Kind}
use Rattle.hume_base.specs.declared.token.Kind.TheVariants as kind

-- the bytes that have a part in spellings
abbrev pub tab : ℕ
tab = 9

-- the byte of a newline
abbrev pub newline : ℕ
newline = 10

-- the byte of a carriage return
abbrev pub carriage_return : ℕ
carriage_return = 13

-- the byte of a blank
abbrev pub blank : ℕ
blank = 32

-- the byte of a double quote
abbrev pub double_quote : ℕ
double_quote = 34

-- the byte of a single quote
abbrev pub single_quote : ℕ
single_quote = 39

-- the byte of `-`
abbrev pub dash : ℕ
dash = 45

-- the byte of a backslash
abbrev pub backslash : ℕ
backslash = 92

-- the byte of `_`
abbrev pub underscore : ℕ
underscore = 95

-- the byte is one from low to high
abbrev pub between : ℕ → ℕ → ℕ → Bool
between low high byte = nat_le low byte && nat_le byte high

-- a tab, a newline, a carriage return or a blank
abbrev pub is_space : ℕ → Bool
is_space byte = byte == tab || byte == newline || byte == carriage_return || byte == blank

-- a letter a to z
abbrev pub is_small : ℕ → Bool
is_small byte = between 97 122 byte

-- a letter A to Z
abbrev pub is_capital : ℕ → Bool
is_capital byte = between 65 90 byte

-- a digit 0 to 9
abbrev pub is_digit : ℕ → Bool
is_digit byte = between 48 57 byte

-- a letter, a digit or an underscore
abbrev pub is_name_byte : ℕ → Bool
is_name_byte byte = is_small byte || is_capital byte || is_digit byte || byte == underscore

-- a blank to ~
abbrev pub is_printable : ℕ → Bool
is_printable byte = between 32 126 byte

-- stands between double quotes: no double quote
abbrev pub is_quotable : ℕ → Bool
is_quotable byte = is_printable byte && not (byte == double_quote)

-- any byte but a newline
abbrev pub is_no_newline : ℕ → Bool
is_no_newline byte = not (byte == newline)

-- each byte passes the test
abbrev pub Each : (ℕ → Bool) → List ℕ → Type 0
Each test bytes = AllByRecursion (λ byte. test byte ≡ true) bytes

-- a first letter of the one case, and then letters, digits and underscores
abbrev pub IsName : (ℕ → Bool) → List ℕ → Type 0
IsName is_first [] = ⊥
IsName is_first (byte ∷ bytes) = (is_first byte ≡ true) × Each is_name_byte bytes

-- what digits are worth
abbrev pub value_of : List ℕ → ℕ
value_of digits = fold (λ n digit. n * 10 + (digit - 48)) 0 digits

-- a printable byte, a newline or a tab
abbrev pub is_letter : ℕ → Bool
is_letter byte = is_printable byte || byte == newline || byte == tab

-- what stands between single quotes for a letter: an escape, or else the byte itself
abbrev pub letter_text : ℕ → List ℕ
letter_text byte =
    if byte == newline then backslash ∷ codes "n"
    else (if byte == tab then backslash ∷ codes "t"
    else (if byte == backslash then backslash ∷ backslash ∷ []
    else (if byte == single_quote then backslash ∷ single_quote ∷ []
    else byte ∷ [])))

-- the bytes are a spelling of this kind; a number is as wide and a name as long as it is written
abbrev pub Spells : Kind → List ℕ → Type 0
Spells (kind.Lower name) bytes =
    (bytes ≡ name) × IsName is_small bytes × ((word : Keyword) → bytes ≢ keyword_text word)
Spells (kind.Upper name) bytes = (bytes ≡ name) × IsName is_capital bytes
Spells (kind.Number n) bytes = Each is_digit bytes × (0 < length bytes) × (n ≡ value_of bytes)
Spells (kind.Letter byte) bytes =
    (is_letter byte ≡ true) × (bytes ≡ single_quote ∷ (letter_text byte ++ single_quote ∷ []))
Spells (kind.Quoted inside) bytes =
    Each is_quotable inside × (0 < length inside) × (length inside ≤ MAX_PORT_NAME_BYTES)
    × (bytes ≡ double_quote ∷ (inside ++ double_quote ∷ []))
Spells (kind.Word word) bytes = bytes ≡ keyword_text word
Spells (kind.Sign symbol) bytes = bytes ≡ symbol_text symbol
