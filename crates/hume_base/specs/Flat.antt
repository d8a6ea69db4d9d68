-- The words of a value: its scalars in order, and for data the place of the constructor before them and zeros after them.
use Rattle.std.specs.Prelude.{ℕ, zero, suc, ◌-◌, ◌==◌, List, [], ◌∷◌, ◌++◌, map, length, Option, Some, None, if◌then◌else◌, slice_get, replicate}
use Rattle.std.specs.List.{flat_map}
use Rattle.hume_base.specs.declared.types.Ty.{Ty, fold-Ty}
use Rattle.hume_base.specs.declared.types.Ty.TheOpen.{Ty-F}
use Rattle.hume_base.specs.declared.types.Value.{Value, out-Value}
use Rattle.hume_base.specs.declared.types.Value.TheOpen.{Value-F}
use Rattle.hume_base.specs.declared.types.Types.{Types}
use Rattle.hume_base.specs.declared.types.SumDef.{SumDef}
use Rattle.hume_base.specs.Sizes.{size_of_sum, named_size}
use Rattle.hume_base.specs.Values.{fields_at}

-- the words of several parts, one after another
abbrev pub joined : List (Value → List ℕ) → List Value → List ℕ
joined [] values = []
joined (words ∷ others) [] = []
joined (words ∷ others) (value ∷ values) = words value ++ joined others values

-- a value's own word: a scalar, or the place of a constructor
abbrev pub word_in : Value-F Value → ℕ
word_in (Value-F.Word word) = word
word_in (Value-F.Con place values) = place
word_in _ = 0

-- the parts of a value, in order; a word has none
abbrev pub parts_in : Value-F Value → List Value
parts_in (Value-F.Word word) = []
parts_in (Value-F.Tuple values) = values
parts_in (Value-F.Vector values) = values
parts_in (Value-F.Con place values) = values

-- the word of a scalar, or the place of a constructor; 0 of a tuple or a vector, which have none
abbrev pub word_of_value : Value → ℕ
word_of_value value = word_in (out-Value value)

abbrev pub one_word : Value → List ℕ
one_word value = word_of_value value ∷ []

-- one level of a type, with what gives the words of its parts in their places
abbrev pub flat_step : (ℕ → Value → List ℕ) → Ty-F (Value → List ℕ) → Value → List ℕ
flat_step named Ty-F.Bool value = one_word value
flat_step named Ty-F.Char value = one_word value
flat_step named (Ty-F.Int bits) value = one_word value
flat_step named (Ty-F.Nat bits) value = one_word value
flat_step named (Ty-F.Tuple words) value = joined words (parts_in (out-Value value))
flat_step named (Ty-F.Vector count words) value = flat_map words (parts_in (out-Value value))
flat_step named (Ty-F.Named number) value = named number value

abbrev pub flat_with : (ℕ → Value → List ℕ) → Ty → Value → List ℕ
flat_with named = fold-Ty (Value → List ℕ) (flat_step named)

-- with zeros up to so many words
abbrev pub padded : ℕ → List ℕ → List ℕ
padded size words = words ++ replicate (size - length words) 0

-- the words of a constructor and its fields
abbrev pub con_words : (Ty → Value → List ℕ) → SumDef → Value-F Value → List ℕ
con_words words sum value = word_in value ∷ joined (map words (fields_at sum (word_in value))) (parts_in value)

abbrev pub flat_sum : (Ty → Value → List ℕ) → ℕ → Option SumDef → Value → List ℕ
flat_sum words size None value = []
flat_sum words size (Some sum) value = padded size (con_words words sum (out-Value value))

-- the words of each data type of a number below the bound, which holds only data types of smaller numbers
unfoldable pub named_words : Types → ℕ → ℕ → Value → List ℕ
named_words types zero number value = []
named_words types (suc bound) number value =
    if number == bound
    then flat_sum (flat_with (named_words types bound)) (size_of_sum (named_size types bound) (slice_get types.sums bound)) (slice_get types.sums bound) value
    else named_words types bound number value

-- the words of a value of a type
abbrev pub flat : Types → Ty → Value → List ℕ
flat types = flat_with (named_words types (length types.sums))
