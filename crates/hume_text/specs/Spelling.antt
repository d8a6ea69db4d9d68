-- How a value is spelled: its tokens from left to right, with the spaces that are printed between them.
use Rattle.std.specs.Prelude.{ℕ, zero, suc, ◌==◌, Bool, true, false, ℤ, pos, List, [], ◌∷◌, ◌++◌, map, length, codes, Option, Some, None, if◌then◌else◌, slice_get}
use Rattle.std.specs.List.{flat_map}
use Rattle.hume_base.specs.declared.types.Ty.{Ty, fold-Ty}
use Rattle.hume_base.specs.declared.types.Ty.TheOpen.{Ty-F}
use Rattle.hume_base.specs.declared.types.Value.{Value, out-Value}
use Rattle.hume_base.specs.declared.types.Value.TheOpen.{Value-F}
use Rattle.hume_base.specs.declared.types.Types.{Types}
use Rattle.hume_base.specs.declared.types.SumDef.{SumDef}
use Rattle.hume_base.specs.declared.types.ConDef.{ConDef}
use Rattle.hume_base.specs.Words.{int_of}
use Rattle.hume_base.specs.Values.{fields_at}
use Rattle.hume_base.specs.Flat.{word_in, parts_in, word_of_value}

-- a token of a text, or the space that is printed between two of them
pub data Piece : Type 0 where
  Space : Piece
  Open : Piece
  Close : Piece
  OpenVector : Piece
  CloseVector : Piece
  Comma : Piece
  Name : List ℕ → Piece
  Number : ℤ → Piece
  Letter : ℕ → Piece

-- the name of a truth value
abbrev pub bool_name : ℕ → List ℕ
bool_name word = if word == 0 then codes "false" else codes "true"

-- several parts, each spelled in its own way
abbrev pub each_spelled : List (Value → List Piece) → List Value → List (List Piece)
each_spelled [] values = []
each_spelled (spelled ∷ others) [] = []
each_spelled (spelled ∷ others) (value ∷ values) = spelled value ∷ each_spelled others values

-- a comma and a space before each part but the first
abbrev pub with_commas : List (List Piece) → List Piece
with_commas [] = []
with_commas (part ∷ parts) = part ++ flat_map (λ later. Comma ∷ (Space ∷ later)) parts

-- the value is a constructor with fields
abbrev pub has_fields : Value-F Value → Bool
has_fields (Value-F.Con place (field ∷ fields)) = true
has_fields _ = false

-- a field of a constructor after its space; one that is a constructor with fields stands in parentheses
abbrev pub as_field : (Value → List Piece) → Value → List Piece
as_field spelled value = if has_fields (out-Value value) then Space ∷ (Open ∷ (spelled value ++ Close ∷ [])) else Space ∷ spelled value

-- the name of a constructor; nothing where there is none
abbrev pub name_of : Option ConDef → List ℕ
name_of None = []
name_of (Some con) = con.name

-- the name of the constructor at a place
abbrev pub name_at : SumDef → ℕ → List ℕ
name_at sum place = name_of (slice_get sum.cons place)

-- a constructor with its fields
abbrev pub con_spelled : (Ty → Value → List Piece) → SumDef → Value-F Value → List Piece
con_spelled spelled sum value =
    Name (name_at sum (word_in value))
    ∷ flat_map (λ part. part) (each_spelled (map (λ ty. as_field (spelled ty)) (fields_at sum (word_in value))) (parts_in value))

-- a value of a data type, if there is one
abbrev pub sum_spelled : (Ty → Value → List Piece) → Option SumDef → Value → List Piece
sum_spelled spelled None value = []
sum_spelled spelled (Some sum) value = con_spelled spelled sum (out-Value value)

-- one level of a type, with the spellings of its parts in their places; `named` has that of each data type
abbrev pub spelling_step : (ℕ → Value → List Piece) → Ty-F (Value → List Piece) → Value → List Piece
spelling_step named Ty-F.Bool value = Name (bool_name (word_of_value value)) ∷ []
spelling_step named Ty-F.Char value = Letter (word_of_value value) ∷ []
spelling_step named (Ty-F.Int bits) value = Number (int_of (word_of_value value)) ∷ []
spelling_step named (Ty-F.Nat bits) value = Number (pos (word_of_value value)) ∷ []
spelling_step named (Ty-F.Tuple parts) value = Open ∷ (with_commas (each_spelled parts (parts_in (out-Value value))) ++ Close ∷ [])
spelling_step named (Ty-F.Vector count item) value = OpenVector ∷ (with_commas (map item (parts_in (out-Value value))) ++ CloseVector ∷ [])
spelling_step named (Ty-F.Named number) value = named number value

-- how a value of a type is spelled, by how those of data types are
abbrev pub spelling_with : (ℕ → Value → List Piece) → Ty → Value → List Piece
spelling_with named = fold-Ty (Value → List Piece) (spelling_step named)

-- the spelling for each data type of a number below the bound, which holds only data types of smaller numbers
unfoldable pub named_spelling : Types → ℕ → ℕ → Value → List Piece
named_spelling types zero number value = []
named_spelling types (suc bound) number value =
    if number == bound then sum_spelled (spelling_with (named_spelling types bound)) (slice_get types.sums bound) value
    else named_spelling types bound number value

-- how a value of a type is spelled
abbrev pub spelling : Types → Ty → Value → List Piece
spelling types = spelling_with (named_spelling types (length types.sums))
