-- What reads the value at the front of a line: it puts its words behind the words so far, and leaves the rest of the line.
use Rattle.std.specs.Prelude.{ℕ, zero, suc, ◌+◌, ◌-◌, ◌^◌, ◌==◌, min, nat_lt, nat_eq, Bool, true, false, pos, List, [], ◌∷◌, ◌++◌, length, drop, replicate, codes, Option, Some, None, if◌then◌else◌, slice_get}
use Rattle.std.specs.Cmp.Lexicographic.{pointwise}
use Rattle.hume_base.specs.declared.types.Ty.{Ty, fold-Ty, out-Ty}
use Rattle.hume_base.specs.declared.types.Ty.TheOpen.{Ty-F}
use Rattle.hume_base.specs.declared.types.Types.{Types}
use Rattle.hume_base.specs.declared.types.SumDef.{SumDef}
use Rattle.hume_base.specs.declared.types.ConDef.{ConDef}
use Rattle.hume_base.specs.Words.{word_of}
use Rattle.hume_base.specs.Values.{is_char_word, is_int_of, fields_at}
use Rattle.hume_text.specs.Spelling.{Piece, Open, Close, OpenVector, CloseVector, Comma, Name, Number, Letter}
use Rattle.hume_text.specs.Read.{Cut, next}
use Rattle.hume_text.specs.inner.Printers.{is_compound}

-- the words so far and the rest of the line; none where the line doesn't begin with such a value, or its words find no room
abbrev pub Reading : Type 0
Reading = Option (List ℕ × List ℕ)

abbrev pub Reader : Type 0
Reader = List ℕ → List ℕ → Reading

abbrev pub then_read : Reading → Reader → Reading
then_read None reader = None
then_read (Some read) reader = reader read.0 read.1

-- what is read from where a line goes on
abbrev pub read_on : Option (List ℕ) → (List ℕ → Reading) → Reading
read_on None reading = None
read_on (Some line) reading = reading line

-- signs

abbrev pub is_open : Piece → Bool
is_open Open = true
is_open _ = false

abbrev pub is_close : Piece → Bool
is_close Close = true
is_close _ = false

abbrev pub is_open_vector : Piece → Bool
is_open_vector OpenVector = true
is_open_vector _ = false

abbrev pub is_close_vector : Piece → Bool
is_close_vector CloseVector = true
is_close_vector _ = false

abbrev pub is_comma : Piece → Bool
is_comma Comma = true
is_comma _ = false

-- the rest behind a token that passes the test
abbrev pub behind_sign : (Piece → Bool) → Cut → Option (List ℕ)
behind_sign test None = None
behind_sign test (Some cut) = if test cut.0 then Some cut.1 else None

-- words of tokens

abbrev pub bool_in : Piece → Option ℕ
bool_in (Name name) = if pointwise nat_eq name (codes "false") then Some 0 else (if pointwise nat_eq name (codes "true") then Some 1 else None)
bool_in _ = None

abbrev pub char_in : Piece → Option ℕ
char_in (Letter byte) = if is_char_word byte then Some byte else None
char_in _ = None

abbrev pub int_in : ℕ → Piece → Option ℕ
int_in bits (Number number) = if is_int_of (min bits 64) number then Some (word_of number) else None
int_in bits _ = None

abbrev pub nat_in : ℕ → Piece → Option ℕ
nat_in bits (Number (pos number)) = if nat_lt number (2 ^ min bits 64) then Some number else None
nat_in bits _ = None

-- the place of the first constructor of a name, where those before it are so many
abbrev pub first_named : ℕ → List ConDef → List ℕ → Option ℕ
first_named place [] name = None
first_named place (con ∷ cons) name = if pointwise nat_eq con.name name then Some place else first_named (place + 1) cons name

abbrev pub place_in : SumDef → Piece → Option ℕ
place_in sum (Name name) = first_named 0 sum.cons name
place_in sum _ = None

abbrev pub with_rest : Option ℕ → List ℕ → Option (ℕ × List ℕ)
with_rest None rest = None
with_rest (Some word) rest = Some (word, rest)

-- the word of a token, and what is behind it
abbrev pub found_in : (Piece → Option ℕ) → Cut → Option (ℕ × List ℕ)
found_in word None = None
found_in word (Some cut) = with_rest (word cut.0) cut.1

-- a word behind the others, if there is room for it
abbrev pub put_word : ℕ → ℕ → Reader
put_word room word words line = if nat_lt (length words) room then Some (words ++ word ∷ [], line) else None

abbrev pub put_found : ℕ → List ℕ → Option (ℕ × List ℕ) → Reading
put_found room words None = None
put_found room words (Some found) = put_word room found.0 words found.1

abbrev pub read_word : ℕ → (Piece → Option ℕ) → Reader
read_word room word words line = put_found room words (found_in word (next line))

-- several values, with a comma before each but the first

-- where one of several begins
abbrev pub part_start : Bool → List ℕ → Option (List ℕ)
part_start true line = Some line
part_start false line = behind_sign is_comma (next line)

abbrev pub read_part : Bool → Reader → Reader
read_part first reader words line = read_on (part_start first line) (reader words)

abbrev pub read_several : Bool → List Reader → Reader
read_several first [] words line = Some (words, line)
read_several first (reader ∷ readers) words line = then_read (read_part first reader words line) (read_several false readers)

abbrev pub closed_by : (Piece → Bool) → Reading → Reading
closed_by closing None = None
closed_by closing (Some read) = read_on (behind_sign closing (next read.1)) (λ rest. Some (read.0, rest))

abbrev pub read_in : (Piece → Bool) → (Piece → Bool) → List Reader → Reader
read_in opening closing readers words line =
    closed_by closing (read_on (behind_sign opening (next line)) (read_several true readers words))

-- a field: in parentheses where it is a constructor with fields, and only there

abbrev pub opens : Ty-F Ty → List ℕ → Option (List ℕ)
opens (Ty-F.Named number) line = behind_sign is_open (next line)
opens _ line = None

-- behind the closing parenthesis, if the value is a constructor with fields; where none was opened, it isn't one
abbrev pub closed_field : Bool → Bool → List ℕ → Option (List ℕ)
closed_field true true line = behind_sign is_close (next line)
closed_field true false line = None
closed_field false true line = None
closed_field false false line = Some line

abbrev pub field_ended : Types → Ty → List ℕ → Bool → Reading → Reading
field_ended types ty words opened None = None
field_ended types ty words opened (Some read) =
    read_on (closed_field opened (is_compound types (out-Ty ty) (drop (length words) read.0)) read.1) (λ rest. Some (read.0, rest))

-- whether a field stands in parentheses, and where its value begins
abbrev pub field_start : Option (List ℕ) → List ℕ → Bool × List ℕ
field_start None line = (false, line)
field_start (Some inner) line = (true, inner)

abbrev pub read_from : Types → Ty → Reader → List ℕ → Bool × List ℕ → Reading
read_from types ty reader words start = field_ended types ty words start.0 (reader words start.1)

abbrev pub read_field : Types → Ty → Reader → Reader
read_field types ty reader words line = read_from types ty reader words (field_start (opens (out-Ty ty) line) line)

abbrev pub read_fields : Types → (Ty → Reader) → List Ty → Reader
read_fields types reader [] words line = Some (words, line)
read_fields types reader (ty ∷ tys) words line = then_read (read_field types ty (reader ty) words line) (read_fields types reader tys)

-- a constructor, whose place is the first word, with its fields
abbrev pub read_con_found : Types → ℕ → (Ty → Reader) → SumDef → List ℕ → Option (ℕ × List ℕ) → Reading
read_con_found types room reader sum words None = None
read_con_found types room reader sum words (Some found) =
    then_read (put_word room found.0 words found.1) (read_fields types reader (fields_at sum found.0))

abbrev pub read_con : Types → ℕ → (Ty → Reader) → SumDef → Reader
read_con types room reader sum words line = read_con_found types room reader sum words (found_in (place_in sum) (next line))

abbrev pub put_zeros : ℕ → ℕ → Reader
put_zeros room zero words line = Some (words, line)
put_zeros room (suc count) words line = then_read (put_word room 0 words line) (put_zeros room count)

-- with zeros behind the value's words up to so many
abbrev pub filled_up : ℕ → ℕ → List ℕ → Reading → Reading
filled_up room size words None = None
filled_up room size words (Some read) = put_zeros room (size - (length read.0 - length words)) read.0 read.1

abbrev pub read_sum : Types → ℕ → (Ty → Reader) → Option SumDef → Reader
read_sum types room reader None words line = None
read_sum types room reader (Some sum) words line = filled_up room sum.words words (read_con types room reader sum words line)

-- one level of a type, with the readers of its parts in their places; `named` has that of each data type
abbrev pub read_step : ℕ → (ℕ → Reader) → Ty-F Reader → Reader
read_step room named Ty-F.Bool words line = read_word room bool_in words line
read_step room named Ty-F.Char words line = read_word room char_in words line
read_step room named (Ty-F.Int bits) words line = read_word room (int_in bits) words line
read_step room named (Ty-F.Nat bits) words line = read_word room (nat_in bits) words line
read_step room named (Ty-F.Tuple readers) words line = read_in is_open is_close readers words line
read_step room named (Ty-F.Vector count reader) words line = read_in is_open_vector is_close_vector (replicate {A = Reader} count reader) words line
read_step room named (Ty-F.Named number) words line = named number words line

abbrev pub read_with : ℕ → (ℕ → Reader) → Ty → Reader
read_with room named = fold-Ty Reader (read_step room named)

-- the reader of each data type of a number below the bound, which holds only data types of smaller numbers
unfoldable pub read_named : Types → ℕ → ℕ → ℕ → Reader
read_named types room zero number words line = None
read_named types room (suc bound) number words line =
    if number == bound then read_sum types room (read_with room (read_named types room bound)) (slice_get types.sums bound) words line
    else read_named types room bound number words line
