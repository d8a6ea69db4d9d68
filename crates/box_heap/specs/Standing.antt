-- Which words stand for which values in a heap.
use Rattle.std.specs.Prelude.{◌≡◌, ℕ, List, [], ◌∷◌, Some}
use Rattle.hume_base.specs.declared.types.Value.{Value}
use Rattle.hume_base.specs.declared.types.Value.TheVariants as value
use Rattle.box_heap.specs.Heaps.{Object, object_at}

mutual
  -- A word stands for itself. Tuples and vectors are objects of tag 0, and a constructor has its number as tag.
  pub data Stands (objects : List Object) : Value → ℕ → Type 0 where
    word : (word : ℕ) → Stands objects (value.Word word) word
    tuple : {values : List Value} {fields : List ℕ} (place : ℕ) → object_at objects place ≡ Some (0, fields) → AllStand objects values fields
        → Stands objects (value.Tuple values) place
    vector : {values : List Value} {fields : List ℕ} (place : ℕ) → object_at objects place ≡ Some (0, fields) → AllStand objects values fields
        → Stands objects (value.Vector values) place
    con : {values : List Value} {fields : List ℕ} (number place : ℕ) → object_at objects place ≡ Some (number, fields) → AllStand objects values fields
        → Stands objects (value.Con number values) place

  -- each word for the value at its place
  pub data AllStand (objects : List Object) : List Value → List ℕ → Type 0 where
    none : AllStand objects [] []
    more : {value : Value} {values : List Value} {word : ℕ} {words : List ℕ} → Stands objects value word → AllStand objects values words
        → AllStand objects (value ∷ values) (word ∷ words)
