-- What instructions do that follow paths.
use Rattle.std.proofs.Common.{◌≡◌, ℕ, suc, ◌+◌, ◌<◌, ◌==◌, if◌then◌else◌, List, [], ◌∷◌, length, take, drop, get_or, Option, Some, None, refl, ap, sym, ◌∙◌, arith}
use Rattle.std.specs.Option.{option_and_then}
use Rattle.std.proofs.lemmas.Option.{slice_get_within}
use Rattle.std.proofs.Math.Seq.{drop-cons}
use Rattle.box_heap.specs.Heaps.{HeapView, object_at}
use Rattle.box_heap.proofs.Objects.{field_within}
use Rattle.box_code.specs.declared.instr.Path.{Path}
use Rattle.box_code.specs.declared.instr.Instr.TheVariants as instr
use Rattle.box_code.specs.Machine.{Setting, Next, with_word, lowered, pushed, field_of, tag_of, at_path}
use Rattle.box_machine.specs.declared.registers.Registers.{Registers}
use Rattle.box_machine.specs.inner.Stepping.{CanDoOn, HasRoom, IsHeap, found_in, machine_in, objects_in}
use Rattle.box_machine.proofs.Held.{some_object}
use Rattle.box_machine.proofs.Effects.{word_there}

-- one step after another

some_next : (o : Option ℕ) (go : ℕ → Option ℕ) (word : ℕ) → option_and_then go o ≡ Some word → (mid : ℕ) × (o ≡ Some mid) × (go mid ≡ Some word)
some_next None go word is = cc
some_next (Some mid) go word is = (mid, refl, is)

module _ (heap : HeapView) (h : IsHeap heap) (number : ℕ) (numbers : List ℕ) (start word : ℕ) (is : at_path (objects_in heap)
    (number ∷ numbers) start ≡ Some word) where
  first_field : (mid : ℕ) × (field_of (object_at (objects_in heap) start) number ≡ Some mid) × (at_path (objects_in heap) numbers mid ≡ Some word)
  first_field = some_next (field_of (object_at (objects_in heap) start) number) (at_path (objects_in heap) numbers) word is

  small_number : number < length heap.words
  small_number =
      let object = some_object (object_at (objects_in heap) start) number first_field.0 first_field.1 in
      let within = slice_get_within object.0.1 number first_field.0 object.2 in
      let there = field_within heap (objects_in heap) h.held start object.0 object.1 number within in
      omega (arith, there)

module _ (heap : HeapView) (h : IsHeap heap) (numbers : List ℕ) (at now word : ℕ) (less : at < length numbers) (is : at_path (objects_in heap)
    (drop at numbers) now ≡ Some word) where
  split : at_path (objects_in heap) (get_or numbers at 0 ∷ drop (suc at) numbers) now ≡ Some word
  split = ap (λ ns. at_path (objects_in heap) ns now) (sym (drop-cons numbers at 0 less)) ∙ is

  pub next_field : (mid : ℕ) × (field_of (object_at (objects_in heap) now) (get_or numbers at 0) ≡ Some mid)
  next_field =
      let found = first_field heap h (get_or numbers at 0) (drop (suc at) numbers) now word split in
      (found.0, found.1)

  pub next_small : get_or numbers at 0 < length heap.words
  next_small = small_number heap h (get_or numbers at 0) (drop (suc at) numbers) now word split

  pub next_path : (mid : ℕ) → field_of (object_at (objects_in heap) now) (get_or numbers at 0) ≡ Some mid
      → at_path (objects_in heap) (drop (at + 1) numbers) mid ≡ Some word
  next_path mid field =
      let found = first_field heap h (get_or numbers at 0) (drop (suc at) numbers) now word split in
      let same : mid ≡ found.0 = let e : ◌≡◌ {A = Option ℕ} (Some mid) (Some found.0) = sym field ∙ found.1 in cc in
      let step : at + 1 ≡ suc at = omega arith in
      (λ i. at_path (objects_in heap) (drop (step i) numbers) (same i)) ∙ found.2

-- the word at a path is there, if there is room for what follows

module _ (able : Setting) (code : List ℕ) (same : able.code ≡ code) (depth : ℕ) (path : Path) (r : Registers) (words : List ℕ) (heap : HeapView) where
  there_in : (go : ℕ → Next) → HasRoom (with_word (found_in able.code (objects_in heap) depth path (take r.top words)) go) (length words) heap.room
      → (word : ℕ) × (found_in code (objects_in heap) depth path (take r.top words) ≡ Some word)
  there_in go h =
      let there = word_there (found_in able.code (objects_in heap) depth path (take r.top words)) go (length words) heap.room h in
      (there.0, ap (λ c. found_in c (objects_in heap) depth path (take r.top words)) (sym same) ∙ there.1)

  pub word_found : (word to : ℕ) → CanDoOn able (instr.MatchWord depth path word to) r words heap
      → (found : ℕ) × (found_in code (objects_in heap) depth path (take r.top words) ≡ Some found)
  word_found word to can = there_in (λ found. lowered (machine_in r words heap) (if found == word then r.at else to) (take r.top words)) can.fits

  pub field_found : CanDoOn able (instr.Field depth path) r words heap
      → (found : ℕ) × (found_in code (objects_in heap) depth path (take r.top words) ≡ Some found)
  field_found can = there_in (λ word. pushed (machine_in r words heap) r.at (take r.top words) (word ∷ [])) can.fits

  tag_in : (o : Option ℕ) (tag to : ℕ)
      → HasRoom (with_word (option_and_then (λ place. tag_of (object_at (objects_in heap) place)) o) (λ found. lowered (machine_in r words heap)
      (if found == tag then r.at else to) (take r.top words))) (length words) heap.room
      → (place : ℕ) × (o ≡ Some place) × (found : ℕ) × (tag_of (object_at (objects_in heap) place) ≡ Some found)
  tag_in None tag to h = absurd h
  tag_in (Some place) tag to h =
      let there = word_there (tag_of (object_at (objects_in heap) place)) (λ found. lowered (machine_in r words heap) (if found == tag then r.at else to)
      (take r.top words)) (length words) heap.room h in
      (place, refl, there.0, there.1)

  pub tag_found : (tag to : ℕ) → CanDoOn able (instr.MatchTag depth path tag to) r words heap
      → (place : ℕ) × (found_in code (objects_in heap) depth path (take r.top words) ≡ Some place) × (found : ℕ) × (tag_of (object_at
      (objects_in heap) place) ≡ Some found)
  tag_found tag to can =
      let there = tag_in (found_in able.code (objects_in heap) depth path (take r.top words)) tag to can.fits in
      (there.0, ap (λ c. found_in c (objects_in heap) depth path (take r.top words)) (sym same) ∙ there.1, there.2, there.3)
