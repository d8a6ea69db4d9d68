-- The piece at the front of the bytes, as a function: what the private functions give. The laws in proofs/ say that it
-- finds the longest piece where one stands.
use Rattle.std.specs.Prelude.{ℕ, List, [], ◌∷◌, ◌++◌, length, drop, Bool, false, ◌&&◌, ◌==◌, nat_lt, nat_le, if◌then◌else◌, not, Option, Some, None, option_map}
use Rattle.hume_base.specs.Keywords.{keyword_of}
use Rattle.hume_base.specs.Symbols.{symbol_of}
use Rattle.hume_base.specs.declared.keyword.Keyword.{Keyword}
use Rattle.hume_base.specs.declared.symbol.Symbol.{Symbol}
use Rattle.hume_base.specs.declared.limits.TheConstants.{MAX_PORT_NAME_BYTES}
use Rattle.hume_base.specs.declared.token.Kind.TheVariants as kind
use Rattle.hume_lex.specs.Spelling.{tab, newline, double_quote, single_quote, dash, backslash, is_space, is_small, is_capital, is_digit, is_name_byte, is_printable, is_quotable, is_no_newline, value_of}
use Rattle.hume_lex.specs.Reading.{Piece, gap, token}

-- stands between single quotes as it is: no quote and no backslash
abbrev pub is_plain : ℕ → Bool
is_plain byte = is_printable byte && not (byte == single_quote) && not (byte == backslash)

-- the bytes from the front on that pass
abbrev pub run : (ℕ → Bool) → List ℕ → List ℕ
run passes [] = []
run passes (byte ∷ bytes) = if passes byte then byte ∷ run passes bytes else []

-- a keyword, or else a name
abbrev pub small_piece : Option Keyword → List ℕ → Piece
small_piece (Some word) text = token (kind.Word word) text
small_piece None text = token (kind.Lower text) text

abbrev pub letter_n : ℕ
letter_n = 110

abbrev pub letter_t : ℕ
letter_t = 116

-- a name or a keyword, a name with a capital, and a number of this text
abbrev pub name_of : List ℕ → Piece
name_of text = small_piece (keyword_of text) text

abbrev pub capital_of : List ℕ → Piece
capital_of text = token (kind.Upper text) text

abbrev pub number_of : List ℕ → Piece
number_of text = token (kind.Number (value_of text)) text

-- the byte that an escape means
abbrev pub escaped : ℕ → Option ℕ
escaped code =
    if code == letter_n then Some newline
    else (if code == letter_t then Some tab
    else (if code == backslash then Some backslash
    else (if code == single_quote then Some single_quote
    else None)))

abbrev pub starts_with_byte : ℕ → List ℕ → Bool
starts_with_byte wanted [] = false
starts_with_byte wanted (byte ∷ bytes) = byte == wanted

-- a letter of the byte, between single quotes
abbrev pub letter_of : ℕ → List ℕ → Piece
letter_of byte text = token (kind.Letter byte) (single_quote ∷ (text ++ single_quote ∷ []))

abbrev pub escape_piece : ℕ → List ℕ → Option Piece
escape_piece code rest =
    if starts_with_byte single_quote rest then option_map (λ byte. letter_of byte (backslash ∷ (code ∷ []))) (escaped code)
    else None

-- after the single quote
abbrev pub letter_piece : List ℕ → Option Piece
letter_piece [] = None
letter_piece (byte ∷ []) = None
letter_piece (byte ∷ (next ∷ rest)) =
    if byte == backslash then escape_piece next rest
    else (if is_plain byte && next == single_quote then Some (letter_of byte (byte ∷ []))
    else None)

-- as long as a port's name may be, and closed
abbrev pub is_port_name : List ℕ → List ℕ → Bool
is_port_name inside rest =
    nat_lt 0 (length inside) && nat_le (length inside) MAX_PORT_NAME_BYTES && starts_with_byte double_quote rest

abbrev pub quoted_of : List ℕ → Piece
quoted_of inside = token (kind.Quoted inside) (double_quote ∷ (inside ++ double_quote ∷ []))

-- after the double quote
abbrev pub quoted_piece : List ℕ → Option Piece
quoted_piece bytes =
    if is_port_name (run is_quotable bytes) (drop (length (run is_quotable bytes)) bytes)
    then Some (quoted_of (run is_quotable bytes))
    else None

abbrev pub one_sign : ℕ → Option Piece
one_sign byte = option_map (λ symbol. token (kind.Sign symbol) (byte ∷ [])) (symbol_of (byte ∷ []))

abbrev pub two_signs : Option Symbol → ℕ → ℕ → Option Piece
two_signs (Some symbol) byte next = Some (token (kind.Sign symbol) (byte ∷ (next ∷ [])))
two_signs None byte next = one_sign byte

abbrev pub sign_piece : ℕ → List ℕ → Option Piece
sign_piece byte [] = one_sign byte
sign_piece byte (next ∷ rest) =
    if byte == dash && next == dash then Some (gap (byte ∷ (next ∷ run is_no_newline rest)))
    else two_signs (symbol_of (byte ∷ (next ∷ []))) byte next

-- after a first byte that begins no name and no number
abbrev pub mark_piece : ℕ → List ℕ → Option Piece
mark_piece byte rest =
    if byte == single_quote then letter_piece rest
    else (if byte == double_quote then quoted_piece rest
    else sign_piece byte rest)

unfoldable pub first_piece : List ℕ → Option Piece
first_piece [] = None
first_piece (byte ∷ rest) =
    if is_space byte then Some (gap (byte ∷ []))
    else (if is_small byte then Some (name_of (run is_name_byte (byte ∷ rest)))
    else (if is_capital byte then Some (capital_of (run is_name_byte (byte ∷ rest)))
    else (if is_digit byte then Some (number_of (run is_digit (byte ∷ rest)))
    else mark_piece byte rest)))
