-- Where variables stand on the stack of a machine.
use Rattle.std.specs.Prelude.{◌≡◌, ℕ, ◌+◌, ◌≤◌, List, [], ◌∷◌, length, Some, slice_get}
use Rattle.hume_base.specs.declared.types.Value.{Value}
use Rattle.box_heap.specs.Heaps.{Object}
use Rattle.box_heap.specs.Standing.{Stands}
use Rattle.box_code.specs.Machine.{Machine}

-- at each place, counted from a frame above so many words, stands a word for the value of the variable
pub data Hold (below : ℕ) (stack : List ℕ) (objects : List Object) : List ℕ → List Value → Type 0 where
  none : Hold below stack objects [] []
  more : {places : List ℕ} {values : List Value} (place word : ℕ) {value : Value} → slice_get stack (below + place) ≡ Some word → Stands objects value word
      → Hold below stack objects places values → Hold below stack objects (place ∷ places) (value ∷ values)

-- the variables stand on the stack of the machine, whose frame is so high above so many words
pub record Fits (below : ℕ) (places : List ℕ) (env : List Value) (high : ℕ) (m : Machine) : Type 0 where
  pub low : length m.stack ≤ m.peak
  pub long : length m.stack ≡ below + high
  pub hold : Hold below m.stack m.objects places env
