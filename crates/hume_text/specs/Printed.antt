-- The text of a value that is printed.
use Rattle.std.specs.Prelude.{◌≡◌, true, ℕ, ◌==◌, List, [], ◌∷◌, ◌++◌, codes, if◌then◌else◌}
use Rattle.std.specs.Fmt.{signed_decimal}
use Rattle.std.specs.List.{flat_map}
use Rattle.hume_base.specs.declared.types.Ty.{Ty}
use Rattle.hume_base.specs.declared.types.Value.{Value}
use Rattle.hume_base.specs.declared.types.Types.{Types}
use Rattle.hume_base.specs.Values.{is_value}
use Rattle.hume_base.specs.Flat.{flat}
use Rattle.hume_text.specs.Spelling.{Piece, Space, Open, Close, OpenVector, CloseVector, Comma, Name, Number, Letter, spelling}

-- what stands between single quotes for a character: an escape of a newline, a tab, a backslash or a quote, and else its byte
abbrev pub letter_bytes : ℕ → List ℕ
letter_bytes byte =
    if byte == 10 then codes "\\n"
    else (if byte == 9 then codes "\\t"
    else (if byte == 92 then codes "\\\\"
    else (if byte == 39 then codes "\\'"
    else byte ∷ [])))

-- the bytes of a token, or of the space between two
abbrev pub piece_bytes : Piece → List ℕ
piece_bytes Space = codes " "
piece_bytes Open = codes "("
piece_bytes Close = codes ")"
piece_bytes OpenVector = codes "<<"
piece_bytes CloseVector = codes ">>"
piece_bytes Comma = codes ","
piece_bytes (Name name) = name
piece_bytes (Number number) = signed_decimal number
piece_bytes (Letter byte) = codes "'" ++ letter_bytes byte ++ codes "'"

-- the bytes of a spelling
abbrev pub written : List Piece → List ℕ
written pieces = flat_map piece_bytes pieces

-- the text of a value of a type
abbrev pub texts : Types → Ty → Value → List ℕ
texts types ty value = written (spelling types ty value)

-- the words are those of a value of the type
pub record AreWordsOf (types : Types) (ty : Ty) (words : List ℕ) (value : Value) : Type 0 where
  pub typed : is_value types ty value ≡ true
  pub same : flat types ty value ≡ words
