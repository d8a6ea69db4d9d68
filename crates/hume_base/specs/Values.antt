-- Which values a type has.
use Rattle.std.specs.Prelude.{ℕ, zero, suc, ◌-◌, ◌^◌, nat_lt, nat_le, ◌==◌, ◌&&◌, ◌||◌, Bool, true, false, ℤ, pos, neg_ℤ, List, [], ◌∷◌, map, length, Option, Some, None, if◌then◌else◌, slice_get}
use Rattle.std.specs.Int.RustNames.{int_le, int_lt}
use Rattle.std.specs.List.{list_all}
use Rattle.hume_base.specs.declared.types.Ty.{Ty, fold-Ty}
use Rattle.hume_base.specs.declared.types.Ty.TheOpen.{Ty-F}
use Rattle.hume_base.specs.declared.types.Value.{Value, out-Value}
use Rattle.hume_base.specs.declared.types.Value.TheOpen.{Value-F}
use Rattle.hume_base.specs.declared.types.Types.{Types}
use Rattle.hume_base.specs.declared.types.SumDef.{SumDef}
use Rattle.hume_base.specs.declared.types.ConDef.{ConDef}
use Rattle.hume_base.specs.Words.{int_of}

-- the number is one of `int` with so many bits
abbrev pub is_int_of : ℕ → ℤ → Bool
is_int_of bits number = int_le (neg_ℤ (pos (2 ^ (bits - 1)))) number && int_lt number (pos (2 ^ (bits - 1)))

-- the word is that of a number of `int` with so many bits
abbrev pub is_int_word : ℕ → ℕ → Bool
is_int_word bits word = nat_lt word (2 ^ 64) && is_int_of bits (int_of word)

-- the word is the byte of a character: a printed one of ASCII, a tab or a newline
abbrev pub is_char_word : ℕ → Bool
is_char_word word = (nat_le 32 word && nat_le word 126) || (word == 9) || (word == 10)

-- the value is a word that passes the test
abbrev pub is_word_of : (ℕ → Bool) → Value-F Value → Bool
is_word_of test (Value-F.Word word) = test word
is_word_of test _ = false

-- one part for each test, which passes it
abbrev pub all_pass : List (Value → Bool) → List Value → Bool
all_pass [] [] = true
all_pass [] (value ∷ values) = false
all_pass (test ∷ tests) [] = false
all_pass (test ∷ tests) (value ∷ values) = test value && all_pass tests values

-- the value is a tuple of parts that pass the tests
abbrev pub is_tuple_of : List (Value → Bool) → Value-F Value → Bool
is_tuple_of tests (Value-F.Tuple values) = all_pass tests values
is_tuple_of tests _ = false

-- the value is a vector of so many elements that pass the test
abbrev pub is_vector_of : ℕ → (Value → Bool) → Value-F Value → Bool
is_vector_of count test (Value-F.Vector values) = (length values == count) && list_all test values
is_vector_of count test _ = false

-- one level of a type, with the tests of its parts in their places; `named` has the test of each data type
abbrev pub value_step : (ℕ → Value → Bool) → Ty-F (Value → Bool) → Value → Bool
value_step named Ty-F.Bool value = is_word_of (λ word. nat_lt word 2) (out-Value value)
value_step named Ty-F.Char value = is_word_of is_char_word (out-Value value)
value_step named (Ty-F.Int bits) value = is_word_of (is_int_word bits) (out-Value value)
value_step named (Ty-F.Nat bits) value = is_word_of (λ word. nat_lt word (2 ^ bits)) (out-Value value)
value_step named (Ty-F.Tuple tests) value = is_tuple_of tests (out-Value value)
value_step named (Ty-F.Vector count test) value = is_vector_of count test (out-Value value)
value_step named (Ty-F.Named number) value = named number value

-- the value is one of the type, by the test of each data type
abbrev pub is_value_with : (ℕ → Value → Bool) → Ty → Value → Bool
is_value_with named = fold-Ty (Value → Bool) (value_step named)

-- the types of the fields of a constructor; none where there is none
abbrev pub fields_of : Option ConDef → List Ty
fields_of None = []
fields_of (Some con) = con.fields

-- the types of the fields of the constructor at a place
abbrev pub fields_at : SumDef → ℕ → List Ty
fields_at sum place = fields_of (slice_get sum.cons place)

-- the value is a constructor of the data type with fields of its types
abbrev pub is_con_of : (Ty → Value → Bool) → SumDef → Value-F Value → Bool
is_con_of test sum (Value-F.Con place values) = nat_lt place (length sum.cons) && all_pass (map test (fields_at sum place)) values
is_con_of test sum _ = false

-- the value is one of the data type, if there is one
abbrev pub is_sum_value : (Ty → Value → Bool) → Option SumDef → Value → Bool
is_sum_value test None value = false
is_sum_value test (Some sum) value = is_con_of test sum (out-Value value)

-- the values of each data type of a number below the bound, which holds only data types of smaller numbers
unfoldable pub is_named_value : Types → ℕ → ℕ → Value → Bool
is_named_value types zero number value = false
is_named_value types (suc bound) number value =
    if number == bound then is_sum_value (is_value_with (is_named_value types bound)) (slice_get types.sums bound) value
    else is_named_value types bound number value

-- the value is one of the type
abbrev pub is_value : Types → Ty → Value → Bool
is_value types = is_value_with (is_named_value types (length types.sums))
