-- What gives the text of the value at the front of a list of words, and leaves the words after it.
use Rattle.std.specs.Prelude.{ℕ, zero, suc, ◌-◌, ◌%◌, ◌==◌, Bool, true, false, List, [], ◌∷◌, ◌++◌, length, drop, replicate, codes, Option, Some, None, if◌then◌else◌, slice_get}
use Rattle.std.specs.Fmt.{decimal, signed_decimal}
use Rattle.hume_base.specs.declared.types.Ty.{Ty, fold-Ty, out-Ty}
use Rattle.hume_base.specs.declared.types.Ty.TheOpen.{Ty-F}
use Rattle.hume_base.specs.declared.types.Types.{Types}
use Rattle.hume_base.specs.declared.types.SumDef.{SumDef}
use Rattle.hume_base.specs.Words.{int_of}
use Rattle.hume_base.specs.Values.{fields_at}
use Rattle.hume_text.specs.Spelling.{bool_name, name_at}
use Rattle.hume_text.specs.Printed.{letter_bytes}

-- what gives the text of the value at the front of the words, and the words after it
abbrev pub Printer : Type 0
Printer = List ℕ → List ℕ × List ℕ

-- the bytes, and behind them those of what is printed next
abbrev pub then_print : List ℕ → List ℕ × List ℕ → List ℕ × List ℕ
then_print bytes later = (bytes ++ later.0, later.1)

-- and these bytes behind
abbrev pub closed_by : List ℕ → List ℕ × List ℕ → List ℕ × List ℕ
closed_by bytes printed = (printed.0 ++ bytes, printed.1)

-- a word; nothing where there is none
abbrev pub print_word : (ℕ → List ℕ) → Printer
print_word text [] = ([], [])
print_word text (word ∷ words) = (text word, words)

-- the character of a word's lowest byte
abbrev pub letter_text : ℕ → List ℕ
letter_text word = codes "'" ++ letter_bytes (word % 256) ++ codes "'"

abbrev pub int_text : ℕ → List ℕ
int_text word = signed_decimal (int_of word)

-- several values, with these bytes before the first, and a comma and a space before each other
abbrev pub print_several : List ℕ → List Printer → Printer
print_several before [] words = ([], words)
print_several before (printer ∷ printers) words =
    then_print (before ++ (printer words).0) (print_several (codes ", ") printers (printer words).1)

abbrev pub print_in : List ℕ → List ℕ → List Printer → Printer
print_in opening closing printers words = then_print opening (closed_by closing (print_several [] printers words))

abbrev pub are_some : List Ty → Bool
are_some [] = false
are_some (ty ∷ tys) = true

abbrev pub fields_stand : Option SumDef → List ℕ → Bool
fields_stand None words = false
fields_stand (Some sum) [] = false
fields_stand (Some sum) (place ∷ words) = are_some (fields_at sum place)

-- a value of the type with these words is a constructor with fields
abbrev pub is_compound : Types → Ty-F Ty → List ℕ → Bool
is_compound types (Ty-F.Named number) words = fields_stand (slice_get types.sums number) words
is_compound types _ words = false

-- a field, in parentheses where it is a constructor with fields
abbrev pub print_field : Bool → Printer → Printer
print_field true printer words = then_print (codes " (") (closed_by (codes ")") (printer words))
print_field false printer words = then_print (codes " ") (printer words)

-- the fields of a constructor
abbrev pub print_fields : Types → (Ty → Printer) → List Ty → Printer
print_fields types printer [] words = ([], words)
print_fields types printer (ty ∷ tys) words =
    let field = print_field (is_compound types (out-Ty ty) words) (printer ty) words in
    then_print field.0 (print_fields types printer tys field.1)

-- a constructor, whose place is the first word, with its fields
abbrev pub print_con : Types → (Ty → Printer) → SumDef → Printer
print_con types printer sum [] = ([], [])
print_con types printer sum (place ∷ words) = then_print (name_at sum place) (print_fields types printer (fields_at sum place) words)

-- without the zeros after a value that fill it up to so many words
abbrev pub past_zeros : ℕ → List ℕ → List ℕ × List ℕ → List ℕ × List ℕ
past_zeros size words printed = (printed.0, drop (size - (length words - length printed.1)) printed.1)

abbrev pub print_sum : Types → (Ty → Printer) → Option SumDef → Printer
print_sum types printer None words = ([], words)
print_sum types printer (Some sum) words = past_zeros sum.words words (print_con types printer sum words)

-- one level of a type, with the printers of its parts in their places; `named` has that of each data type
abbrev pub print_step : (ℕ → Printer) → Ty-F Printer → Printer
print_step named Ty-F.Bool words = print_word bool_name words
print_step named Ty-F.Char words = print_word letter_text words
print_step named (Ty-F.Int bits) words = print_word int_text words
print_step named (Ty-F.Nat bits) words = print_word decimal words
print_step named (Ty-F.Tuple printers) words = print_in (codes "(") (codes ")") printers words
print_step named (Ty-F.Vector count printer) words = print_in (codes "<<") (codes ">>") (replicate {A = Printer} count printer) words
print_step named (Ty-F.Named number) words = named number words

abbrev pub print_with : (ℕ → Printer) → Ty → Printer
print_with named = fold-Ty Printer (print_step named)

-- the printer of each data type of a number below the bound, which holds only data types of smaller numbers
unfoldable pub print_named : Types → ℕ → ℕ → Printer
print_named types zero number words = ([], words)
print_named types (suc bound) number words =
    if number == bound then print_sum types (print_with (print_named types bound)) (slice_get types.sums bound) words
    else print_named types bound number words
