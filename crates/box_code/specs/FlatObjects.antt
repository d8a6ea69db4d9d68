-- The flat words of what stands in a heap, by its type: none where no value of the type stands there.
use Rattle.std.specs.Prelude.{ℕ, zero, suc, ◌==◌, List, [], ◌∷◌, ◌++◌, map, length, Option, Some, None, if◌then◌else◌, slice_get}
use Rattle.std.specs.Option.{option_map, option_and_then}
use Rattle.hume_base.specs.declared.types.Ty.{Ty, fold-Ty}
use Rattle.hume_base.specs.declared.types.Ty.TheOpen.{Ty-F}
use Rattle.hume_base.specs.declared.types.Types.{Types}
use Rattle.hume_base.specs.declared.types.SumDef.{SumDef}
use Rattle.hume_base.specs.Sizes.{size_of_sum, named_size}
use Rattle.hume_base.specs.Values.{fields_at}
use Rattle.hume_base.specs.Flat.{padded}
use Rattle.box_heap.specs.Heaps.{Object, object_at}

-- the words of what a word stands for
abbrev pub Flattening : Type 0
Flattening = ℕ → Option (List ℕ)

-- the words of both, the left ones first
abbrev pub both_words : Option (List ℕ) → Option (List ℕ) → Option (List ℕ)
both_words None more = None
both_words (Some words) None = None
both_words (Some words) (Some more) = Some (words ++ more)

-- the words of several parts, one after another
abbrev pub joined_words : List Flattening → List ℕ → Option (List ℕ)
joined_words [] fields = Some []
joined_words (part ∷ parts) [] = None
joined_words (part ∷ parts) (field ∷ fields) = both_words (part field) (joined_words parts fields)

-- the words of all elements, one after another
abbrev pub item_words : Flattening → List ℕ → Option (List ℕ)
item_words item [] = Some []
item_words item (field ∷ fields) = both_words (item field) (item_words item fields)

-- one level of a type, with what gives the words of its parts in their places
abbrev pub flat_at_step : List Object → (ℕ → Flattening) → Ty-F Flattening → Flattening
flat_at_step objects named Ty-F.Bool word = Some (word ∷ [])
flat_at_step objects named Ty-F.Char word = Some (word ∷ [])
flat_at_step objects named (Ty-F.Int bits) word = Some (word ∷ [])
flat_at_step objects named (Ty-F.Nat bits) word = Some (word ∷ [])
flat_at_step objects named (Ty-F.Tuple parts) word = option_and_then (λ (object : Object). joined_words parts object.1) (object_at objects word)
flat_at_step objects named (Ty-F.Vector count item) word = option_and_then (λ (object : Object). item_words item object.1) (object_at objects word)
flat_at_step objects named (Ty-F.Named number) word = named number word

abbrev pub flat_at_with : List Object → (ℕ → Flattening) → Ty → Flattening
flat_at_with objects named = fold-Ty Flattening (flat_at_step objects named)

-- the constructor's place and the words of its fields, with zeros up to so many words
abbrev pub object_words : (Ty → Flattening) → ℕ → SumDef → Object → Option (List ℕ)
object_words words size sum object =
    option_map (λ fields. padded size (object.0 ∷ fields)) (joined_words (map words (fields_at sum object.0)) object.1)

abbrev pub flat_at_sum : (Ty → Flattening) → ℕ → Option SumDef → Option Object → Option (List ℕ)
flat_at_sum words size None object = None
flat_at_sum words size (Some sum) object = option_and_then (object_words words size sum) object

-- what gives the words of each data type of a number below the bound, which holds only data types of smaller numbers
unfoldable pub named_at : Types → List Object → ℕ → ℕ → Flattening
named_at types objects zero number word = None
named_at types objects (suc bound) number word =
    if number == bound
    then flat_at_sum (flat_at_with objects (named_at types objects bound)) (size_of_sum (named_size types bound) (slice_get types.sums bound))
    (slice_get types.sums bound) (object_at objects word)
    else named_at types objects bound number word

-- the flat words of the value of the type for which the word stands
abbrev pub flat_at : Types → List Object → Ty → Flattening
flat_at types objects = flat_at_with objects (named_at types objects (length types.sums))
