-- What a heap holds.
use Rattle.std.specs.Prelude.{◌≡◌, ℕ, ◌+◌, ◌-◌, ◌*◌, ◌<◌, ◌==◌, nat_lt, max, All, List, [], ◌∷◌, ◌++◌, length, slice_set, Option, Some, None, if◌then◌else◌}
use Rattle.std.specs.List.{flat_map}

-- its words, those of the first object first; the most that there were; and for how many there is room
pub record HeapView : Type 0 where
  pub words : List ℕ
  pub peak : ℕ
  pub room : ℕ

-- a tag, and fields
abbrev pub Object : Type 0
Object = ℕ × List ℕ

-- in front of its fields an object has a word with its tag and how many they are
abbrev pub words_of_object : Object → List ℕ
words_of_object object = (object.0 + 4294967296 * length object.1) ∷ object.1

-- the heap has these objects, in the order in which they were put; a tag has 32 bits
pub record HasObjects (heap : HeapView) (objects : List Object) : Type 0 where
  pub words : heap.words ≡ flat_map words_of_object objects
  pub tags : All (λ (object : Object). object.0 < 4294967296) objects

-- the heap once the object is put behind the others
abbrev pub with_object : HeapView → Object → HeapView
with_object heap object = record heap {
  words = heap.words ++ words_of_object object;
  peak = max heap.peak (length heap.words + (1 + length object.1));
}

-- the heap once these objects are put, one after another
abbrev pub with_objects : HeapView → List Object → HeapView
with_objects heap [] = heap
with_objects heap (object ∷ objects) = with_objects (with_object heap object) objects

-- the object that begins at a place, counted in words from 0
abbrev pub object_at : List Object → ℕ → Option Object
object_at [] place = None
object_at (object ∷ objects) place =
    if place == 0 then Some object
    else (if nat_lt place (1 + length object.1) then None else object_at objects (place - (1 + length object.1)))

-- the objects once a field of the object at a place has another word
abbrev pub with_field : List Object → ℕ → ℕ → ℕ → List Object
with_field [] place i word = []
with_field (object ∷ objects) place i word =
    if place == 0 then (object.0, slice_set object.1 i word) ∷ objects
    else object ∷ with_field objects (place - (1 + length object.1)) i word
