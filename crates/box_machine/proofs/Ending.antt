-- A machine that goes on to its end.
use Rattle.std.proofs.Common.{◌≡◌, ℕ, zero, suc, ◌+◌, ◌-◌, ◌<◌, ◌≤◌, ◌==◌, nat_le, Bool, true, false, if◌then◌else◌, List, [], ◌∷◌, ◌++◌, length, map, take, Option, Some, None, slice_get, slice_set, refl, ap, sym, ◌∙◌, subst, arith, length-append}
use Rattle.std.specs.List.{flat_map}
use Rattle.std.specs.Option.{IsSome, is_some}
use Rattle.std.proofs.lemmas.Grind.{flat_map-append}
use Rattle.std.proofs.lemmas.Option.{slice_get_within}
use Rattle.hume_base.specs.declared.types.Value.{Word}
use Rattle.hume_base.specs.Flat.{word_of_value}
use Rattle.hume_model.specs.declared.core_tree.Op.{Op}
use Rattle.hume_model.specs.declared.core_tree.Op.TheVariants as op
use Rattle.hume_model.specs.declared.exceptions.TheConstants.{RANGE}
use Rattle.hume_model.specs.declared.outcome.Outcome.{Outcome}
use Rattle.hume_model.specs.declared.outcome.Outcome.TheVariants.{Gives, Raises}
use Rattle.hume_model.specs.Operations.{prim, is_place}
use Rattle.box_heap.specs.Heaps.{HeapView, Object, object_at, words_of_object}
use Rattle.box_heap.specs.Stacks.{under, last}
use Rattle.box_code.specs.declared.instr.Scalar.{Scalar}
use Rattle.box_code.specs.declared.instr.Scalar.TheVariants as scalar
use Rattle.box_code.specs.declared.instr.Instr.{Instr}
use Rattle.box_code.specs.declared.instr.Instr.TheVariants as instr
use Rattle.box_code.specs.Reading.{Read, at_head, instr_at}
use Rattle.box_code.specs.Machine.{Setting, Machine, Next, Goes, Ends, Broken, act, act_on, step, with_word, with_object, with_last, word_at, come_to, operated, indexed, updated, to_handler, put, pushed, lowered, ended as ended_with, flat_outs, outs_in, found_at, tag_found_at, field_of, op_of, type_of, used}
use Rattle.box_machine.specs.declared.registers.Registers.{Registers}
use Rattle.box_machine.specs.inner.Stepping.{CanDoOn, DoesOn, EndsIn, Fits, HasRoom, by_next, ended, finished, machine_in, objects_in}
use Rattle.box_machine.proofs.Decoded.{goes_there, room_there}

-- the peak, the objects' words and a raised exception stay

record Grows (m n : Machine) : Type 0 where
  peak : m.peak ≤ n.peak
  objects : used m.objects ≤ used n.objects
  raised : IsSome m.raised → IsSome n.raised

abbrev GrowsTo : Machine → Next → Type 0
GrowsTo m (Goes n) = Grows m n
GrowsTo m (Ends n) = Grows m n
GrowsTo m Broken = Unit {0}

word_grows : (m : Machine) (o : Option ℕ) (go : ℕ → Next) → ((word : ℕ) → GrowsTo m (go word)) → GrowsTo m (with_word o go)
word_grows m None go h = tt
word_grows m (Some word) go h = h word

object_grows : (m : Machine) (o : Option Object) (go : Object → Next) → ((object : Object) → GrowsTo m (go object)) → GrowsTo m (with_object o go)
object_grows m None go h = tt
object_grows m (Some object) go h = h object

either_grows : (m : Machine) (b : Bool) (x y : Next) → GrowsTo m x → GrowsTo m y → GrowsTo m (if b then x else y)
either_grows m true x y one two = one
either_grows m false x y one two = two

last_grows : (m : Machine) (count : ℕ) (stack : List ℕ) (go : List ℕ → List ℕ → Next) → ((s w : List ℕ) → GrowsTo m (go s w))
    → GrowsTo m (with_last count stack go)
last_grows m count stack go h = either_grows m (nat_le count (length stack)) (go (under count stack) (last count stack)) Broken (h (under count stack)
    (last count stack)) tt

lowered_grows : (m : Machine) (to : ℕ) (stack : List ℕ) → GrowsTo m (lowered m to stack)
lowered_grows m to stack = record { peak = omega arith; objects = omega arith; raised = λ some. some }

pushed_grows : (m : Machine) (to : ℕ) (stack words : List ℕ) → GrowsTo m (pushed m to stack words)
pushed_grows m to stack words = record { peak = omega arith; objects = omega arith; raised = λ some. some }

put_grows : (m : Machine) (to : ℕ) (stack : List ℕ) (object : Object) → GrowsTo m (put m to stack object)
put_grows m to stack object =
    let more = ap (λ ws. length ws) (flat_map-append words_of_object m.objects (object ∷ []))
    ∙ length-append (flat_map words_of_object m.objects) (flat_map words_of_object (object ∷ [])) in
    record { peak = omega arith; objects = omega (arith, more); raised = λ some. some }

handler_grows : (s : Setting) (m : Machine) (exn word : ℕ) → GrowsTo m (to_handler s m exn word)
handler_grows s m exn word = record { peak = omega arith; objects = omega arith; raised = λ some. refl }

come_grows : (s : Setting) (m : Machine) (next : ℕ) (stack : List ℕ) (o : Outcome) → GrowsTo m (come_to s m next stack o)
come_grows s m next stack (Gives value) = lowered_grows m next (stack ++ word_of_value value ∷ [])
come_grows s m next stack (Raises exn carried) = handler_grows s m exn 0

operated_grows : (s : Setting) (m : Machine) (next : ℕ) (o : Op) (ty : Scalar) (count : ℕ) → GrowsTo m (operated s m next o ty count)
operated_grows s m next o ty count =
    last_grows m count m.stack (λ stack words. come_to s m next stack (prim o (type_of ty) (map (λ word. Word word) words)))
    (λ stack words. come_grows s m next stack (prim o (type_of ty) (map (λ word. Word word) words)))

indexed_grows : (s : Setting) (m : Machine) (next count : ℕ) (stack words : List ℕ) → GrowsTo m (indexed s m next count stack words)
indexed_grows s m next count stack [] = tt
indexed_grows s m next count stack (vector ∷ []) = tt
indexed_grows s m next count stack (vector ∷ place ∷ []) =
    let found : Next = with_word (field_of (object_at m.objects vector) (place - 1)) (λ word. lowered m next (stack ++ word ∷ [])) in
    either_grows m (is_place count place) found (to_handler s m RANGE 0)
    (word_grows m (field_of (object_at m.objects vector) (place - 1)) (λ word. lowered m next (stack ++ word ∷ [])) (λ word. lowered_grows m next
    (stack ++ word ∷ [])))
    (handler_grows s m RANGE 0)
indexed_grows s m next count stack (vector ∷ place ∷ other ∷ others) = tt

updated_grows : (s : Setting) (m : Machine) (next count : ℕ) (stack words : List ℕ) → GrowsTo m (updated s m next count stack words)
updated_grows s m next count stack [] = tt
updated_grows s m next count stack (vector ∷ []) = tt
updated_grows s m next count stack (vector ∷ place ∷ []) = tt
updated_grows s m next count stack (vector ∷ place ∷ item ∷ []) =
    let go : Object → Next = λ object. put m next stack (object.0, slice_set object.1 (place - 1) item) in
    either_grows m (is_place count place) (with_object (object_at m.objects vector) go) (to_handler s m RANGE 0)
    (object_grows m (object_at m.objects vector) go (λ object. put_grows m next stack (object.0, slice_set object.1 (place - 1) item)))
    (handler_grows s m RANGE 0)
updated_grows s m next count stack (vector ∷ place ∷ item ∷ other ∷ others) = tt

finish_grows : (m : Machine) (stack : List ℕ) (o : Option (List (Option (List ℕ)))) → GrowsTo m (ended_with m stack o)
finish_grows m stack None = tt
finish_grows m stack (Some outs) = record { peak = omega arith; objects = omega arith; raised = λ some. some }

raised_grows : (s : Setting) (m : Machine) (exn : ℕ) (o : Option ℕ) → GrowsTo m (with_word o (to_handler s m exn))
raised_grows s m exn o = word_grows m o (to_handler s m exn) (λ word. handler_grows s m exn word)

act_grows : (s : Setting) (i : Instr) (next : ℕ) (m : Machine) → GrowsTo m (act s i next m)
act_grows s (instr.Push word) next m = pushed_grows m next m.stack (word ∷ [])
act_grows s (instr.Load depth) next m = word_grows m (word_at depth m.stack) (λ word. pushed m next m.stack (word ∷ []))
    (λ word. pushed_grows m next m.stack (word ∷ []))
act_grows s (instr.Make tag count) next m = last_grows m count m.stack (λ stack words. put m next stack (tag, words)) (λ stack words. put_grows m next stack
    (tag, words))
act_grows s (instr.Add ty) next m = operated_grows s m next op.Add ty 2
act_grows s (instr.Sub ty) next m = operated_grows s m next op.Sub ty 2
act_grows s (instr.Mul ty) next m = operated_grows s m next op.Mul ty 2
act_grows s (instr.Div ty) next m = operated_grows s m next op.Div ty 2
act_grows s (instr.Mod ty) next m = operated_grows s m next op.Mod ty 2
act_grows s (instr.Neg ty) next m = operated_grows s m next op.Neg ty 1
act_grows s instr.Not next m = operated_grows s m next op.Not scalar.Bool 1
act_grows s (instr.Convert ty) next m = operated_grows s m next op.Convert ty 1
act_grows s (instr.Compare comparison ty) next m = operated_grows s m next (op_of comparison) ty 2
act_grows s (instr.Index count) next m = last_grows m 2 m.stack (indexed s m next count) (indexed_grows s m next count)
act_grows s (instr.Update count) next m = last_grows m 3 m.stack (updated s m next count) (updated_grows s m next count)
act_grows s (instr.Jump to) next m = lowered_grows m to m.stack
act_grows s (instr.JumpFalse to) next m =
    word_grows m (word_at 0 m.stack) (λ word. lowered m (if word == 0 then to else next) (under 1 m.stack)) (λ word. lowered_grows m
    (if word == 0 then to else next) (under 1 m.stack))
act_grows s (instr.MatchWord depth path word to) next m =
    word_grows m (found_at s m depth path) (λ found. lowered m (if found == word then next else to) m.stack) (λ found. lowered_grows m
    (if found == word then next else to) m.stack)
act_grows s (instr.MatchTag depth path tag to) next m =
    word_grows m (tag_found_at s m depth path) (λ found. lowered m (if found == tag then next else to) m.stack) (λ found. lowered_grows m
    (if found == tag then next else to) m.stack)
act_grows s (instr.Field depth path) next m = word_grows m (found_at s m depth path) (λ word. pushed m next m.stack (word ∷ []))
    (λ word. pushed_grows m next m.stack (word ∷ []))
act_grows s (instr.Slide count) next m =
    word_grows m (word_at 0 m.stack) (λ word. with_last (1 + count) m.stack (λ stack words. lowered m next (stack ++ word ∷ [])))
    (λ word. last_grows m (1 + count) m.stack (λ stack words. lowered m next (stack ++ word ∷ [])) (λ stack words. lowered_grows m next (stack ++ word ∷ [])))
act_grows s (instr.Call to count) next m =
    last_grows m count m.stack (λ stack words. pushed m to m.stack (next ∷ length stack ∷ [])) (λ stack words. pushed_grows m to m.stack
    (next ∷ length stack ∷ []))
act_grows s (instr.Return count variables) next m =
    word_grows m (word_at 0 m.stack) _ (λ word. word_grows m (word_at (2 + variables) m.stack) _ (λ back.
    last_grows m (1 + (variables + (2 + count))) m.stack (λ stack words. if nat_le back (length s.code) then lowered m back (stack ++ word ∷ []) else Broken)
    (λ stack words. either_grows m (nat_le back (length s.code)) (lowered m back (stack ++ word ∷ [])) Broken (lowered_grows m back (stack ++ word ∷ [])) tt)))
act_grows s (instr.Raise exn true) next m = raised_grows s m exn (word_at 0 m.stack)
act_grows s (instr.Raise exn false) next m = raised_grows s m exn (Some 0)
act_grows s (instr.Finish mask) next m =
    last_grows m (outs_in mask s.outs) m.stack (λ stack words. ended_with m stack (flat_outs s.types m.objects s.outs mask words))
    (λ stack words. finish_grows m stack (flat_outs s.types m.objects s.outs mask words))

step_grows : (s : Setting) (o : Read) (m : Machine) → GrowsTo m (act_on s o m)
step_grows s None m = tt
step_grows s (Some found) m = act_grows s found.0 found.1 m

grows_on : (a b c : Machine) → Grows a b → Grows b c → Grows a c
grows_on a b c one two = record {
  peak = omega (arith, one.peak, two.peak);
  objects = omega (arith, one.objects, two.objects);
  raised = λ some. two.raised
      (one.raised some);
}

fits_before : (m n : Machine) (row room : ℕ) → Grows m n → Fits n row room → Fits m row room
fits_before m n row room grows fits = record {
  stack = omega (arith, grows.peak, fits.stack);
  heap = omega (arith, grows.objects, fits.heap);
  handler = λ some. fits.handler (grows.raised some);
}

module _ (s : Setting) where
  ended-zero : (m : Machine) → ended s zero m ≡ None
  unfolding ended
  ended-zero m = refl

  pub ended-more : (left : ℕ) (m : Machine) → ended s (suc left) m ≡ by_next left (step s m) (ended s left)
  unfolding ended
  ended-more left m = refl

  -- from each machine on the way to its end it grows

  by_next_grows : (next : Next) (m : Machine) (left : ℕ) (go : Machine → Option (ℕ × Machine)) (end : ℕ × Machine) → GrowsTo m next
      → ((k : Machine) → go k ≡ Some end → Grows k end.1) → by_next left next go ≡ Some end → Grows m end.1
  by_next_grows (Goes k) m left go end grows later is = grows_on m k end.1 grows (later k is)
  by_next_grows (Ends k) m left go end grows later is =
      let same : ◌≡◌ {A = ℕ × Machine} (left, k) end = cc in
      subst (λ (e : ℕ × Machine). Grows m e.1) same grows
  by_next_grows Broken m left go end grows later is = cc

  end_grows : (left : ℕ) (m : Machine) (end : ℕ × Machine) → ended s left m ≡ Some end → Grows m end.1
  end_grows zero m end is = let e : ◌≡◌ {A = Option (ℕ × Machine)} None (Some end) = sym (ended-zero m) ∙ is in cc
  end_grows (suc left) m end is =
      by_next_grows (step s m) m left (ended s left) end (step_grows s (instr_at s.code m.at) m) (λ k later. end_grows left k end later) (sym
      (ended-more left m) ∙ is)

  some_end : (o : Option (ℕ × Machine)) (row room : ℕ) → EndsIn o row room → (end : ℕ × Machine) × (o ≡ Some end) × Fits end.1 row room
  some_end None row room h = absurd h
  some_end (Some end) row room h = (end, refl, h)

  -- the next instruction on the way to an end

  pub some_left : (left row room : ℕ) (m : Machine) → EndsIn (ended s left m) row room → 1 ≤ left
  some_left zero row room m h = absurd (subst (λ o. EndsIn o row room) (ended-zero m) h)
  some_left (suc left) row room m h = omega arith

  next_room : (next : Next) (left row room : ℕ) (end : ℕ × Machine) → Fits end.1 row room → by_next left next (ended s left) ≡ Some end → HasRoom next row room
  next_room (Goes k) left row room end fits is = fits_before k end.1 row room (end_grows left k end is) fits
  next_room (Ends k) left row room end fits is = tt
  next_room Broken left row room end fits is = cc

  pub has_room : (left row room : ℕ) (m : Machine) → EndsIn (ended s left m) row room → HasRoom (step s m) row room
  has_room zero row room m h = absurd (subst (λ o. EndsIn o row room) (ended-zero m) h)
  has_room (suc left) row room m h =
      let end = some_end (ended s (suc left) m) row room h in
      next_room (step s m) left row room end.0 end.2 (sym (ended-more left m) ∙ end.1)

  is_code : (o : Read) (m : Machine) (row room : ℕ) → HasRoom (act_on s o m) row room → is_some o ≡ true
  is_code None m row room h = absurd h
  is_code (Some found) m row room h = refl

  pub code_there : (left row room : ℕ) (m : Machine) → EndsIn (ended s left m) row room → is_some (instr_at s.code m.at) ≡ true
  code_there left row room m h = is_code (instr_at s.code m.at) m row room (has_room left row room m h)

  -- where it goes on is a place of the code

  instr_within : (at : ℕ) (head : Option ℕ) → slice_get s.code at ≡ head
      → is_some (at_head head (slice_get s.code (at + 1)) (slice_get s.code (at + 2)) (length s.code) at) ≡ true → at < length s.code
  instr_within at None found some = cc
  instr_within at (Some word) found some = slice_get_within s.code at word found

  pub goes_within : (left row room : ℕ) (m new : Machine) → EndsIn (ended s left m) row room → step s m ≡ Goes new → new.at ≤ length s.code
  goes_within zero row room m new h is = absurd (subst (λ o. EndsIn o row room) (ended-zero m) h)
  goes_within (suc left) row room m new h is =
      let next : EndsIn (ended s left new) row room = subst (λ o. EndsIn o row room) (ended-more left m ∙ ap (λ n. by_next left n (ended s left)) is) h in
      let some = code_there left row room new next in
      let inside = instr_within new.at (slice_get s.code new.at) refl some in
      omega (arith, inside)

  -- where one instruction goes on, the end is the same

  pub goes_to_end : (left : ℕ) (m : Machine) (next : Next) → step s m ≡ next → 1 ≤ left → ended s left m ≡ by_next (left - 1) next (ended s (left - 1))
  goes_to_end zero m next is some = absurd (omega arith)
  goes_to_end (suc left) m next is some =
      let same : left ≡ suc left - 1 = omega arith in
      ended-more left m ∙ (λ i. by_next (same i) (is i) (ended s (same i)))

-- one turn of the loop, at the place of the registers

module _ (s : Setting) (left : ℕ) (r : Registers) (words : List ℕ) (heap : HeapView) (i : Instr) (next : ℕ) (read : instr_at s.code r.at ≡ Some (i, next)) where
  abbrev behind : Registers
  behind = record { at = next; top = r.top; peak = r.peak; raised = r.raised }

  step_is : step s (machine_in r words heap) ≡ act s i next (machine_in r words heap)
  step_is = ap (λ o. act_on s o (machine_in r words heap)) read

  pub turn_can : (row room : ℕ) → EndsIn (ended s left (machine_in r words heap)) row room → row ≡ length words → room ≡ heap.room → length s.code ≤ 4294967295
      → CanDoOn s i behind words heap
  turn_can row room ends long wide short =
      let here : HasRoom (act s i next (machine_in r words heap)) row room = subst (λ x. HasRoom x row room) step_is (has_room s left row room
      (machine_in r words heap) ends) in
      let there = room_there s next r.at next (take r.top words) r.peak (objects_in heap) r.raised i row room here in
      record {
        fits = subst (λ n. HasRoom (act s i next (machine_in behind words heap)) n heap.room) long (subst (λ n. HasRoom (act s i next
            (machine_in behind words heap)) row n) wide there);
        lands = λ new is. goes_within s left row room (machine_in r words heap) new ends
            (step_is ∙ goes_there s next next r.at (take r.top words) r.peak (objects_in heap) r.raised i new is);
        short = short;
      }

  pub turn_goes : (new : Registers) (words' : List ℕ) (heap' : HeapView) → 1 ≤ left → DoesOn s i behind words heap new words' heap'
      → ended s (left - 1) (machine_in new words' heap') ≡ ended s left (machine_in r words heap)
  turn_goes new words' heap' some does =
      let m = machine_in r words heap in
      let k = machine_in new words' heap' in
      let here : act s i next m ≡ Goes k = goes_there s next next r.at (take r.top words) r.peak (objects_in heap) r.raised i k does.step in
      sym (goes_to_end s left m (Goes k) (step_is ∙ here) some)

  finish_next : (m : Machine) (n count : ℕ) (stack : List ℕ) (out : List ℕ → Option (List (Option (List ℕ)))) (go : Machine → Option (ℕ × Machine))
      → by_next n (with_last count stack (λ under ws. ended_with m under (out ws))) go ≡ by_next n (with_last count stack (λ under ws. ended_with m under
      (out ws))) (λ k. None)
  finish_next m n count stack out go = by_test (nat_le count (length stack))
    where
      one : (o : Option (List (Option (List ℕ)))) → by_next n (ended_with m (under count stack) o) go ≡ by_next n (ended_with m (under count stack) o)
          (λ k. None)
      one None = refl
      one (Some outs) = refl

      by_test : (b : Bool) → by_next n (if b then ended_with m (under count stack) (out (last count stack)) else Broken) go
          ≡ by_next n (if b then ended_with m (under count stack) (out (last count stack)) else Broken) (λ k. None)
      by_test true = one (out (last count stack))
      by_test false = refl

  pub turn_ends : (mask : ℕ) → 1 ≤ left → i ≡ instr.Finish mask → ended s left (machine_in r words heap) ≡ finished s (left - 1) mask (machine_in r words heap)
  turn_ends mask some is =
      let m = machine_in r words heap in
      goes_to_end s left m (act s (instr.Finish mask) next m) (step_is ∙ ap (λ i. act s i next m) is) some
      ∙ finish_next m (left - 1) (outs_in mask s.outs) (take r.top words) (λ ws. flat_outs s.types (objects_in heap) s.outs mask ws) (ended s (left - 1))
