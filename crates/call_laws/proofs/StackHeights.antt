-- The stack of a machine has no more words than the row of words that holds it.
use Rattle.std.proofs.Common.{◌≡◌, ℕ, ◌+◌, ◌-◌, ◌≤◌, ◌==◌, nat_le, Bool, true, false, if◌then◌else◌, List, [], ◌∷◌, ◌++◌, length, map, Option, Some, None, slice_set, refl, arith, length-append}
use Rattle.std.specs.Option.{IsSome}
use Rattle.std.proofs.lemmas.Bool.{leb-true}
use Rattle.std.proofs.lemmas.List.{length-take}
use Rattle.hume_base.specs.declared.types.Value.{Word}
use Rattle.hume_base.specs.Flat.{word_of_value}
use Rattle.hume_model.specs.declared.core_tree.Op.{Op}
use Rattle.hume_model.specs.declared.core_tree.Op.TheVariants as op
use Rattle.hume_model.specs.declared.exceptions.TheConstants.{RANGE}
use Rattle.hume_model.specs.declared.outcome.Outcome.{Outcome}
use Rattle.hume_model.specs.declared.outcome.Outcome.TheVariants.{Gives, Raises}
use Rattle.hume_model.specs.Operations.{prim, is_place}
use Rattle.box_heap.specs.Heaps.{Object, object_at}
use Rattle.box_heap.specs.Stacks.{under, last}
use Rattle.box_code.specs.declared.instr.Scalar.{Scalar}
use Rattle.box_code.specs.declared.instr.Scalar.TheVariants as scalar
use Rattle.box_code.specs.declared.instr.Instr.{Instr}
use Rattle.box_code.specs.declared.instr.Instr.TheVariants as instr
use Rattle.box_code.specs.Reading.{Read}
use Rattle.box_code.specs.Machine.{Setting, Machine, Next, Goes, Ends, Broken, act, act_on, with_word, with_object, with_last, word_at, come_to, operated, indexed, updated, to_handler, put, pushed, lowered, ended as ended_with, flat_outs, outs_in, found_at, tag_found_at, field_of, op_of, type_of, used}

-- The stack of what comes next is within the row, if the most that it had is, and there is room for the word of a handler.
abbrev pub Lies : ℕ → Next → Type 0
Lies row (Goes n) = n.peak ≤ row → (IsSome n.raised → 1 ≤ row) → length n.stack ≤ row
Lies row (Ends n) = length n.stack ≤ row
Lies row Broken = Unit {0}

module _ (row : ℕ) where
  word_lies : (o : Option ℕ) (go : ℕ → Next) → ((word : ℕ) → Lies row (go word)) → Lies row (with_word o go)
  word_lies None go each = tt
  word_lies (Some word) go each = each word

  object_lies : (o : Option Object) (go : Object → Next) → ((object : Object) → Lies row (go object)) → Lies row (with_object o go)
  object_lies None go each = tt
  object_lies (Some object) go each = each object

  either_lies : (b : Bool) (x y : Next) → Lies row x → Lies row y → Lies row (if b then x else y)
  either_lies true x y one two = one
  either_lies false x y one two = two

  last_lies : (count : ℕ) (stack : List ℕ) (go : List ℕ → List ℕ → Next)
      → ((s w : List ℕ) → length s + count ≡ length stack → Lies row (go s w)) → Lies row (with_last count stack go)
  last_lies count stack go each = by (nat_le count (length stack)) refl
    where
      by : (b : Bool) → nat_le count (length stack) ≡ b → Lies row (if b then go (under count stack) (last count stack) else Broken)
      by true is =
          let few = leb-true count (length stack) is in
          let cut = length-take (length stack - count) stack in
          each (under count stack) (last count stack) (omega (arith, few, cut))
      by false is = tt

  lowered_lies : (m : Machine) (to : ℕ) (stack : List ℕ) → length stack ≤ row → Lies row (lowered m to stack)
  lowered_lies m to stack low peak room = low

  pushed_lies : (m : Machine) (to : ℕ) (stack words : List ℕ) → Lies row (pushed m to stack words)
  pushed_lies m to stack words peak room = let long = length-append stack words in omega (arith, peak, long)

  put_lies : (m : Machine) (to : ℕ) (stack : List ℕ) (object : Object) → Lies row (put m to stack object)
  put_lies m to stack object peak room = let long = length-append stack (used m.objects ∷ []) in omega (arith, peak, long)

  handler_lies : (s : Setting) (m : Machine) (exn word : ℕ) → Lies row (to_handler s m exn word)
  handler_lies s m exn word peak room = room refl

  with_one : (m : Machine) (to : ℕ) (stack : List ℕ) (word : ℕ) → length stack + 1 ≤ row → Lies row (lowered m to (stack ++ word ∷ []))
  with_one m to stack word low = let long = length-append stack (word ∷ []) in lowered_lies m to (stack ++ word ∷ []) (omega (arith, low, long))

  come_lies : (s : Setting) (m : Machine) (next : ℕ) (stack : List ℕ) (o : Outcome) → length stack + 1 ≤ row → Lies row (come_to s m next stack o)
  come_lies s m next stack (Gives value) low = with_one m next stack (word_of_value value) low
  come_lies s m next stack (Raises exn carried) low = handler_lies s m exn 0

  indexed_lies : (s : Setting) (m : Machine) (next count : ℕ) (stack words : List ℕ) → length stack + 1 ≤ row → Lies row (indexed s m next count stack words)
  indexed_lies s m next count stack [] low = tt
  indexed_lies s m next count stack (vector ∷ []) low = tt
  indexed_lies s m next count stack (vector ∷ place ∷ []) low =
      let found : Next = with_word (field_of (object_at m.objects vector) (place - 1)) (λ word. lowered m next (stack ++ word ∷ [])) in
      either_lies (is_place count place) found (to_handler s m RANGE 0)
      (word_lies (field_of (object_at m.objects vector) (place - 1)) (λ word. lowered m next (stack ++ word ∷ [])) (λ word. with_one m next stack word low))
      (handler_lies s m RANGE 0)
  indexed_lies s m next count stack (vector ∷ place ∷ other ∷ others) low = tt

  updated_lies : (s : Setting) (m : Machine) (next count : ℕ) (stack words : List ℕ) → Lies row (updated s m next count stack words)
  updated_lies s m next count stack [] = tt
  updated_lies s m next count stack (vector ∷ []) = tt
  updated_lies s m next count stack (vector ∷ place ∷ []) = tt
  updated_lies s m next count stack (vector ∷ place ∷ item ∷ []) =
      let go : Object → Next = λ object. put m next stack (object.0, slice_set object.1 (place - 1) item) in
      either_lies (is_place count place) (with_object (object_at m.objects vector) go) (to_handler s m RANGE 0)
      (object_lies (object_at m.objects vector) go (λ object. put_lies m next stack (object.0, slice_set object.1 (place - 1) item)))
      (handler_lies s m RANGE 0)
  updated_lies s m next count stack (vector ∷ place ∷ item ∷ other ∷ others) = tt

  raised_lies : (s : Setting) (m : Machine) (exn : ℕ) (o : Option ℕ) → Lies row (with_word o (to_handler s m exn))
  raised_lies s m exn o = word_lies o (to_handler s m exn) (λ word. handler_lies s m exn word)

  finish_lies : (m : Machine) (stack : List ℕ) (o : Option (List (Option (List ℕ)))) → length stack ≤ row → Lies row (ended_with m stack o)
  finish_lies m stack None low = tt
  finish_lies m stack (Some outs) low = low

  module _ (s : Setting) (next : ℕ) (m : Machine) (low : length m.stack ≤ row) where
    operated_lies : (o : Op) (ty : Scalar) (count : ℕ) → 1 ≤ count → Lies row (operated s m next o ty count)
    operated_lies o ty count some =
        last_lies count m.stack (λ stack words. come_to s m next stack (prim o (type_of ty) (map (λ word. Word word) words)))
        (λ stack words long. come_lies s m next stack (prim o (type_of ty) (map (λ word. Word word) words)) (omega (arith, low, some, long)))

    act_lies : (i : Instr) → Lies row (act s i next m)
    act_lies (instr.Push word) = pushed_lies m next m.stack (word ∷ [])
    act_lies (instr.Load depth) =
        word_lies (word_at depth m.stack) (λ word. pushed m next m.stack (word ∷ [])) (λ word. pushed_lies m next m.stack (word ∷ []))
    act_lies (instr.Make tag count) =
        last_lies count m.stack (λ stack words. put m next stack (tag, words)) (λ stack words long. put_lies m next stack (tag, words))
    act_lies (instr.Add ty) = operated_lies op.Add ty 2 (omega arith)
    act_lies (instr.Sub ty) = operated_lies op.Sub ty 2 (omega arith)
    act_lies (instr.Mul ty) = operated_lies op.Mul ty 2 (omega arith)
    act_lies (instr.Div ty) = operated_lies op.Div ty 2 (omega arith)
    act_lies (instr.Mod ty) = operated_lies op.Mod ty 2 (omega arith)
    act_lies (instr.Neg ty) = operated_lies op.Neg ty 1 (omega arith)
    act_lies instr.Not = operated_lies op.Not scalar.Bool 1 (omega arith)
    act_lies (instr.Convert ty) = operated_lies op.Convert ty 1 (omega arith)
    act_lies (instr.Compare comparison ty) = operated_lies (op_of comparison) ty 2 (omega arith)
    act_lies (instr.Index count) =
        last_lies 2 m.stack (indexed s m next count) (λ stack words long. indexed_lies s m next count stack words (omega (arith, low, long)))
    act_lies (instr.Update count) = last_lies 3 m.stack (updated s m next count) (λ stack words long. updated_lies s m next count stack words)
    act_lies (instr.Jump to) = lowered_lies m to m.stack low
    act_lies (instr.JumpFalse to) =
        let cut = length-take (length m.stack - 1) m.stack in
        word_lies (word_at 0 m.stack) (λ word. lowered m (if word == 0 then to else next) (under 1 m.stack))
        (λ word. lowered_lies m (if word == 0 then to else next) (under 1 m.stack) (omega (arith, low, cut)))
    act_lies (instr.MatchWord depth path word to) =
        word_lies (found_at s m depth path) (λ found. lowered m (if found == word then next else to) m.stack)
        (λ found. lowered_lies m (if found == word then next else to) m.stack low)
    act_lies (instr.MatchTag depth path tag to) =
        word_lies (tag_found_at s m depth path) (λ found. lowered m (if found == tag then next else to) m.stack)
        (λ found. lowered_lies m (if found == tag then next else to) m.stack low)
    act_lies (instr.Field depth path) =
        word_lies (found_at s m depth path) (λ word. pushed m next m.stack (word ∷ [])) (λ word. pushed_lies m next m.stack (word ∷ []))
    act_lies (instr.Slide count) =
        word_lies (word_at 0 m.stack) (λ word. with_last (1 + count) m.stack (λ stack words. lowered m next (stack ++ word ∷ [])))
        (λ word. last_lies (1 + count) m.stack (λ stack words. lowered m next (stack ++ word ∷ []))
        (λ stack words long. with_one m next stack word (omega (arith, low, long))))
    act_lies (instr.Call to count) =
        last_lies count m.stack (λ stack words. pushed m to m.stack (next ∷ length stack ∷ []))
        (λ stack words long. pushed_lies m to m.stack (next ∷ length stack ∷ []))
    act_lies (instr.Return count variables) =
        word_lies (word_at 0 m.stack) _ (λ word. word_lies (word_at (2 + variables) m.stack) _ (λ back.
        last_lies (1 + (variables + (2 + count))) m.stack (λ stack words. if nat_le back (length s.code) then lowered m back (stack ++ word ∷ []) else Broken)
        (λ stack words long. either_lies (nat_le back (length s.code)) (lowered m back (stack ++ word ∷ [])) Broken
        (with_one m back stack word (omega (arith, low, long))) tt)))
    act_lies (instr.Raise exn true) = raised_lies s m exn (word_at 0 m.stack)
    act_lies (instr.Raise exn false) = raised_lies s m exn (Some 0)
    act_lies (instr.Finish mask) =
        last_lies (outs_in mask s.outs) m.stack (λ stack words. ended_with m stack (flat_outs s.types m.objects s.outs mask words))
        (λ stack words long. finish_lies m stack (flat_outs s.types m.objects s.outs mask words) (omega (arith, low, long)))

  pub step_lies : (s : Setting) (o : Read) (m : Machine) → length m.stack ≤ row → Lies row (act_on s o m)
  step_lies s None m low = tt
  step_lies s (Some read) m low = act_lies s read.1 m low read.0
