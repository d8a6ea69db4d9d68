-- What stands in a row of words once others are written into it, and which words those of a type are.
use Rattle.std.specs.Prelude.{◌≡◌, ℕ, ◌+◌, ◌≤◌, List, ◌∷◌, ◌++◌, map, length, take, Option, Some, slice_get}
use Rattle.std.specs.Option.{option_map, option_and_then}
use Rattle.hume_base.specs.declared.types.Ty.{Ty}
use Rattle.hume_base.specs.declared.types.Types.{Types}
use Rattle.hume_base.specs.declared.types.SumDef.{SumDef}
use Rattle.hume_base.specs.Sizes.{named_size}
use Rattle.hume_base.specs.Values.{fields_at}
use Rattle.box_heap.specs.Heaps.{Object, object_at}
use Rattle.box_code.specs.FlatObjects.{Flattening, flat_at_with, item_words, joined_words, named_at}

-- the words by a type that holds only data types of numbers below the bound
abbrev pub flat_below : Types → ℕ → List Object → Ty → Flattening
flat_below types bound objects = flat_at_with objects (named_at types objects bound)

-- the words of the fields of the object at a place, each by its own type
abbrev pub parts_at : List Object → List Flattening → ℕ → Option (List ℕ)
parts_at objects parts place = option_and_then (λ (object : Object). joined_words parts object.1) (object_at objects place)

-- the words of its fields, all by one type
abbrev pub items_at : List Object → Flattening → ℕ → Option (List ℕ)
items_at objects item place = option_and_then (λ (object : Object). item_words item object.1) (object_at objects place)

-- its tag, and the words of its fields by the types of the constructor with that number
abbrev pub con_at : List Object → (Ty → Flattening) → SumDef → ℕ → Option (List ℕ)
con_at objects words sum place =
    option_and_then (λ (object : Object). option_map (λ fields. object.0 ∷ fields) (joined_words (map words (fields_at sum object.0)) object.1))
    (object_at objects place)

-- there are words, and from the place on there is room for them in a row of so many
pub record HaveRoomAt (flat : Option (List ℕ)) (at row : ℕ) : Type 0 where
  pub words : List ℕ
  pub is : flat ≡ Some words
  pub fits : at + length words ≤ row

-- these words are written from a place on, up to `end`: those before them stay, and those behind them may be any
pub record IsWritten (old : List ℕ) (at : ℕ) (words : List ℕ) (new : List ℕ) (end : ℕ) : Type 0 where
  pub front : take end new ≡ take at old ++ words
  pub place : end ≡ at + length words
  pub room : length new ≡ length old

-- so are the words, if there are any
abbrev pub AreWritten : Option (List ℕ) → List ℕ → ℕ → List ℕ → ℕ → Type 0
AreWritten flat old at new end = (words : List ℕ) → flat ≡ Some words → IsWritten old at words new end

-- the size that is written beside each data type is its own
abbrev pub HaveExactSizes : Types → Type 0
HaveExactSizes types = (number : ℕ) (sum : SumDef) → slice_get types.sums number ≡ Some sum → sum.words ≡ named_size types (length types.sums) number
