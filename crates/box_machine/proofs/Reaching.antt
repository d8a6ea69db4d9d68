-- What instructions do that read or change objects.
use Rattle.std.proofs.Common.{◌≡◌, ℕ, ◌+◌, ◌-◌, ◌≤◌, max, true, false, if◌then◌else◌, List, [], ◌∷◌, ◌++◌, length, take, Option, Some, None, slice_set, refl, ap, sym, ◌∙◌, subst, arith}
use Rattle.std.proofs.lemmas.Grind.{common_steps}
use Rattle.std.proofs.lemmas.List.{length-take-le}
use Rattle.hume_model.specs.declared.exceptions.TheConstants.{RANGE}
use Rattle.hume_model.specs.Operations.{is_place}
use Rattle.box_heap.specs.Heaps.{HeapView, Object, object_at, with_object}
use Rattle.box_heap.specs.Stacks.{at_depth}
use Rattle.box_code.specs.declared.instr.Instr.TheVariants as instr
use Rattle.box_code.specs.declared.program.BoxProgram.{BoxProgram}
use Rattle.box_code.specs.Machine.{Setting, handler_place, Next, Goes, with_last, with_word, with_object as on_object, put, lowered, to_handler, indexed, updated, field_of}
use Rattle.box_machine.specs.declared.registers.Registers.{Registers}
use Rattle.box_machine.specs.inner.Stepping.{CanDoOn, DoesOn, HasRoom, IsHeap, IsOf, Keeps, Stacked, machine_in, machine_of, objects_in}
use Rattle.box_machine.proofs.Held.{same_keeps, put_keeps, small_tag}
use Rattle.box_machine.proofs.Effects.{under_front, last_there, last_goes, last_two, last_three, word_there, put_does, goes_same}

-- words that take the place of others

pub lowered_does : (r result : Registers) (words words' : List ℕ) (objects : List Object) (to : ℕ) (stack : List ℕ)
    → Stacked result words' to stack r.peak r.raised
    → lowered (machine_of r words objects) to stack ≡ Goes (machine_of result words' objects)
lowered_does r result words words' objects to stack s = goes_same _ _ _ _ _ _ _ _ _ _ (sym s.at_place) (sym s.on_stack) (sym s.most) refl (sym s.same_raised)

pub handed_over : (program : BoxProgram) (setting : Setting) (r result : Registers) (words words' : List ℕ) (objects : List Object) (exn word : ℕ)
    → IsOf program setting
    → Stacked result words' (handler_place program exn) (word ∷ []) r.peak (Some exn)
    → to_handler setting (machine_of r words objects) exn word ≡ Goes (machine_of result words' objects)
handed_over program setting r result words words' objects exn word of s =
    goes_same _ _ _ _ _ _ _ _ _ _ (ap (λ (s : Setting). s.handlers exn) of.same ∙ sym s.at_place) (sym s.on_stack) (sym s.most) refl (sym s.same_raised)

-- elements of vectors

pub index_there : (able : Setting) (count : ℕ) (r : Registers) (words : List ℕ) (heap : HeapView) → CanDoOn able (instr.Index count) r words heap
    → r.top ≤ length words → 2 ≤ r.top
index_there able count r words heap can top =
    let there = last_there 2 (take r.top words) (indexed able (machine_in r words heap) r.at count) (length words) heap.room can.fits in
    omega (arith, there, length-take-le r.top words top)

module _ (setting : Setting) (count : ℕ) (r : Registers) (words : List ℕ) (heap : HeapView) (vector place : ℕ) (some : 2 ≤ r.top) (top : r.top ≤ length words)
    (first : at_depth 1 (take r.top words) ≡ Some vector) (second : at_depth 0 (take r.top words) ≡ Some place) where
  abbrev index_step : Next
  index_step = with_last 2 (take r.top words) (indexed setting (machine_in r words heap) r.at count)

  -- by the two words
  index_of_two : index_step ≡ indexed setting (machine_in r words heap) r.at count (take (r.top - 2) words) (vector ∷ place ∷ [])
  index_of_two =
      let enough : 2 ≤ length (take r.top words) = omega (arith, some, length-take-le r.top words top) in
      last_goes 2 (take r.top words) (indexed setting (machine_in r words heap) r.at count) enough
      ∙ (λ i. indexed setting (machine_in r words heap) r.at count (under_front words r.top 2 top i) (last_two
      (take r.top words) vector place enough first second i))

  pub index_field : CanDoOn setting (instr.Index count) r words heap → is_place count place ≡ true
      → (word : ℕ) × (field_of (object_at (objects_in heap) vector) (place - 1) ≡ Some word)
  index_field can is =
      let go : ℕ → Next = λ word. lowered (machine_in r words heap) r.at (take (r.top - 2) words ++ word ∷ []) in
      let same : index_step ≡ with_word (field_of (object_at (objects_in heap) vector) (place - 1)) go =
      index_of_two ∙ ap (λ b. if b then with_word (field_of (object_at (objects_in heap) vector) (place - 1)) go else to_handler setting
      (machine_in r words heap) RANGE 0) is in
      let there = word_there (field_of (object_at (objects_in heap) vector) (place - 1)) go (length words) heap.room (subst (λ x. HasRoom x
      (length words) heap.room) same can.fits) in
      (there.0, there.1)

  pub index_gives : (word : ℕ) (result : Registers) (words' : List ℕ) → IsHeap heap → is_place count place ≡ true
      → field_of (object_at (objects_in heap) vector) (place - 1) ≡ Some word → Stacked result words' r.at (take (r.top - 2) words ++ word ∷ []) r.peak r.raised
      → DoesOn setting (instr.Index count) r words heap result words' heap
  index_gives word result words' h is field s =
      let go : ℕ → Next = λ word. lowered (machine_in r words heap) r.at (take (r.top - 2) words ++ word ∷ []) in
      record {
        step = index_of_two ∙ ap (λ b. if b then with_word (field_of (object_at (objects_in heap) vector) (place - 1)) go else to_handler setting
            (machine_in r words heap) RANGE 0) is
            ∙ ap (λ o. with_word o go) field ∙ lowered_does r result words words' (objects_in heap) r.at (take (r.top - 2) words ++ word ∷ []) s;
        top = s.within;
        kept = same_keeps heap h;
      }

  pub index_raises : (program : BoxProgram) (result : Registers) (words' : List ℕ) → IsHeap heap → is_place count place ≡ false → IsOf program setting
      → Stacked result words' (handler_place program RANGE) (0 ∷ []) r.peak (Some RANGE) → DoesOn setting (instr.Index count) r words heap result words' heap
  index_raises program result words' h is of s =
      let go : ℕ → Next = λ word. lowered (machine_in r words heap) r.at (take (r.top - 2) words ++ word ∷ []) in
      record {
        step = index_of_two ∙ ap (λ b. if b then with_word (field_of (object_at (objects_in heap) vector) (place - 1)) go else to_handler setting
            (machine_in r words heap) RANGE 0) is
            ∙ handed_over program setting r result words words' (objects_in heap) RANGE 0 of s;
        top = s.within;
        kept = same_keeps heap h;
      }

pub update_there : (able : Setting) (count : ℕ) (r : Registers) (words : List ℕ) (heap : HeapView) → CanDoOn able (instr.Update count) r words heap
    → r.top ≤ length words → 3 ≤ r.top
update_there able count r words heap can top =
    let there = last_there 3 (take r.top words) (updated able (machine_in r words heap) r.at count) (length words) heap.room can.fits in
    omega (arith, there, length-take-le r.top words top)

object_there : (o : Option Object) (go : Object → Next) (row room : ℕ) → HasRoom (on_object o go) row room
    → (object : Object) × (o ≡ Some object) × HasRoom (go object) row room
object_there None go row room h = absurd h
object_there (Some object) go row room h = (object, refl, h)

module _ (setting : Setting) (count : ℕ) (r : Registers) (words : List ℕ) (heap : HeapView) (vector place item : ℕ) (some : 3 ≤ r.top)
    (top : r.top ≤ length words)
    (first : at_depth 2 (take r.top words) ≡ Some vector) (second : at_depth 1 (take r.top words) ≡ Some place) (third : at_depth 0
    (take r.top words) ≡ Some item) where
  abbrev changed : Object → Next
  changed object = put (machine_in r words heap) r.at (take (r.top - 3) words) (object.0, slice_set object.1 (place - 1) item)

  -- by the three words
  update_of_three : with_last 3 (take r.top words) (updated setting (machine_in r words heap) r.at count)
      ≡ (if is_place count place then on_object (object_at (objects_in heap) vector) changed else to_handler setting (machine_in r words heap) RANGE 0)
  update_of_three =
      let enough : 3 ≤ length (take r.top words) = omega (arith, some, length-take-le r.top words top) in
      last_goes 3 (take r.top words) (updated setting (machine_in r words heap) r.at count) enough
      ∙ (λ i. updated setting (machine_in r words heap) r.at count (under_front words r.top 3 top i) (last_three
      (take r.top words) vector place item enough first second third i))

  pub update_object : CanDoOn setting (instr.Update count) r words heap → is_place count place ≡ true
      → (object : Object) × (object_at (objects_in heap) vector ≡ Some object) × HasRoom (changed object) (length words) heap.room
  update_object can is =
      let same = update_of_three ∙ ap (λ b. if b then on_object (object_at (objects_in heap) vector) changed else to_handler setting
      (machine_in r words heap) RANGE 0) is in
      object_there (object_at (objects_in heap) vector) changed (length words) heap.room (subst (λ x. HasRoom x (length words) heap.room) same can.fits)

  pub update_gives : (object : Object) (result : Registers) (words' : List ℕ) (heap' : HeapView) (put_place : ℕ) → IsHeap heap → is_place count place ≡ true
      → object_at (objects_in heap) vector ≡ Some object → heap' ≡ with_object heap (object.0, slice_set object.1 (place - 1) item)
      → put_place ≡ length heap.words
      → Stacked result words' r.at (take (r.top - 3) words ++ put_place ∷ []) (max r.peak (r.top - 3 + 1)) r.raised
      → DoesOn setting (instr.Update count) r words heap result words' heap'
  update_gives object result words' heap' put_place h is found new same s =
      let fields : List ℕ = slice_set object.1 (place - 1) item in
      let small = small_tag heap h vector object found in
      let low : length (take (r.top - 3) words) ≡ r.top - 3 = length-take-le (r.top - 3) words (omega (arith, top)) in
      let held : Stacked result words' r.at (take (r.top - 3) words ++ put_place ∷ []) (max r.peak (length (take (r.top - 3) words) + 1)) r.raised =
      subst (λ n. Stacked result words' r.at (take (r.top - 3) words ++ put_place ∷ []) (max r.peak (n + 1)) r.raised) (sym low) s in
      record {
        step = update_of_three ∙ ap (λ b. if b then on_object (object_at (objects_in heap) vector) changed else to_handler setting
            (machine_in r words heap) RANGE 0) is
            ∙ ap (λ o. on_object o changed) found
            ∙ put_does r result words words' heap heap' (take (r.top - 3) words) fields object.0 put_place h small new same held;
        top = s.within;
        kept = subst (λ x. Keeps heap x) (sym new) (put_keeps heap h object.0 fields small);
      }

  pub update_raises : (program : BoxProgram) (result : Registers) (words' : List ℕ) → IsHeap heap → is_place count place ≡ false → IsOf program setting
      → Stacked result words' (handler_place program RANGE) (0 ∷ []) r.peak (Some RANGE) → DoesOn setting (instr.Update count) r words heap result words' heap
  update_raises program result words' h is of s = record {
    step = update_of_three ∙ ap (λ b. if b then on_object (object_at (objects_in heap) vector) changed else to_handler setting
        (machine_in r words heap) RANGE 0) is
        ∙ handed_over program setting r result words words' (objects_in heap) RANGE 0 of s;
    top = s.within;
    kept = same_keeps heap h;
  }

pub ruleset index_rules = (common_steps, index_there, index_field, index_gives, index_raises)

pub ruleset update_rules = (common_steps, update_there, update_object, update_gives, update_raises)
