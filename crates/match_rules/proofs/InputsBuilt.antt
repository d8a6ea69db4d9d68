-- The inputs of a rule, built one after another.
use Rattle.std.proofs.Common.{◌≡◌, ℕ, zero, suc, ◌+◌, ◌*◌, ◌<◌, ◌≤◌, max, true, List, [], ◌∷◌, ◌++◌, map, length, take, sum, get_or, Option, Some, None, slice_get, refl, ap, sym, ◌∙◌, subst, append_assoc, append-nil, length-append, arith}
use Rattle.std.proofs.lemmas.Bool.{and_parts}
use Rattle.std.proofs.lemmas.Grind.{flat_map-append}
use Rattle.std.proofs.lemmas.List.{map-append, length-map}
use Rattle.std.proofs.lemmas.List.Elements.{All-append}
use Rattle.std.specs.List.{flat_map}
use Rattle.hume_base.specs.declared.types.Ty.{Ty}
use Rattle.hume_base.specs.declared.types.Value.{Value}
use Rattle.hume_base.specs.Flat.{flat}
use Rattle.hume_model.specs.declared.core_tree.PatC.{PatC}
use Rattle.hume_model.specs.declared.core_tree.InPat.{InPat}
use Rattle.hume_model.specs.declared.core_tree.InPat.TheVariants.{Star, AnyStar, Any, Built}
use Rattle.hume_model.specs.declared.core_tree.PortC.{PortC}
use Rattle.hume_model.specs.declared.core_tree.Core.{Core}
use Rattle.hume_model.specs.BoxTyping.{port_types}
use Rattle.hume_model.specs.Matching.{fits_at, fits}
use Rattle.hume_model.specs.WellFormed.{HasSoundFrame}
use Rattle.hume_net.specs.HalfSteps.{oldest}
use Rattle.box_costs.specs.Building.{built_of}
use Rattle.box_costs.specs.Bounds.{built_patterns}
use Rattle.box_costs.specs.ResultSpending.{built_value, built_values, inputs_built, position_built}
use Rattle.box_costs.proofs.CostSteps.{sum_more}
use Rattle.box_heap.specs.Heaps.{HeapView, HasObjects, Object, words_of_object, with_object, with_objects}
use Rattle.box_heap.specs.Stacks.{StackView, with_word, with_words}
use Rattle.box_heap.specs.Standing.{Stands, AllStand}
use Rattle.box_heap.proofs.StandingStill.{all_stand_still}
use Rattle.wire_cells.specs.Cells.{CellView}
use Rattle.wire_cells.proofs.Frames.{readable}
use Rattle.match_rules.specs.Inputs.{IsCellOf, AreCellsOf, AreBuilt}
use Rattle.match_rules.specs.inner.Builders as b
use Rattle.match_rules.specs.inner.Builders.{build_with, build_named, grown}
use Rattle.match_rules.proofs.Objects.{grown_some, grown_words}
use Rattle.match_rules.proofs.ValuesBuilt.{AreTagged, IsBuilt, value_built}
use Rattle.match_rules.proofs.TypedCells.{words_held, typed_held}

-- objects one after another

pub grown_objects : (heap : HeapView) (objects : List Object) → grown heap (flat_map words_of_object objects) ≡ with_objects heap objects
grown_objects heap [] = refl
grown_objects heap (object ∷ objects) =
    let header = object.0 + 4294967296 * length object.1 in
    let own : length (words_of_object object) ≡ 1 + length object.1 = omega arith in
    let one : grown heap (words_of_object object) ≡ with_object heap object = ap
    (λ n. record heap { words = heap.words ++ words_of_object object; peak = max heap.peak (length heap.words + n) }) own in
    sym (grown_some heap header object.1 (flat_map words_of_object objects)) ∙ ap (λ h. grown h (flat_map words_of_object objects)) one
    ∙ grown_objects (with_object heap object) objects

pub objects_both : (heap : HeapView) (first second : List Object) → with_objects heap (first ++ second) ≡ with_objects (with_objects heap first) second
objects_both heap [] second = refl
objects_both heap (object ∷ first) second = objects_both (with_object heap object) first second

pub words_both : (stack : StackView) (first second : List ℕ) → with_words stack (first ++ second) ≡ with_words (with_words stack first) second
words_both stack [] second = refl
words_both stack (word ∷ first) second = words_both (with_word stack word) first second

objects_words : (heap : HeapView) (objects : List Object) → (with_objects heap objects).words ≡ heap.words ++ flat_map words_of_object objects
objects_words heap objects = ap (λ (h : HeapView). h.words) (sym (grown_objects heap objects)) ∙ grown_words heap (flat_map words_of_object objects)

objects_room : (heap : HeapView) (objects : List Object) → (with_objects heap objects).room ≡ heap.room
objects_room heap [] = refl
objects_room heap (object ∷ objects) = objects_room (with_object heap object) objects

pub words_words : (stack : StackView) (words : List ℕ) → (with_words stack words).words ≡ stack.words ++ words
words_words stack [] = sym (append-nil stack.words)
words_words stack (word ∷ words) = words_words (with_word stack word) words ∙ append_assoc stack.words (word ∷ []) words

pub words_room : (stack : StackView) (words : List ℕ) → (with_words stack words).room ≡ stack.room
words_room stack [] = refl
words_room stack (word ∷ words) = words_room (with_word stack word) words

pub has_more : (heap : HeapView) (before objects : List Object) → HasObjects heap before → AreTagged objects
    → HasObjects (with_objects heap objects) (before ++ objects)
has_more heap before objects has tags = record {
  words = objects_words heap objects ∙ ap (λ ws. ws ++ flat_map words_of_object objects) has.words ∙ sym (flat_map-append words_of_object before objects);
  tags = All-append (λ (object : Object). object.0 < 4294967296) before objects has.tags tags;
}

-- a value is put: objects, just so many words as build it, for which the word then stands
pub record IsPut (value : Value) (heap built : HeapView) (word : ℕ) : Type 0 where
  pub objects : List Object
  pub put : built ≡ with_objects heap objects
  pub takes : length (flat_map words_of_object objects) ≡ built_of value
  pub has : (before : List Object) → HasObjects heap before → HasObjects built (before ++ objects)
  pub stands : (before : List Object) → HasObjects heap before → Stands (before ++ objects) value word

-- the value of a cell

module _ (core : Core) (frame : HasSoundFrame core) (type : Ty) (cell : CellView) (v : Value) (later : List Value) (is : IsCellOf core type cell (v ∷ later))
    (words : List ℕ) (shown : slice_get cell.values 0 ≡ Some words) (heap : HeapView) where
  abbrev built : b.Built
  built = build_with (build_named core.types (length core.types.sums)) type (length heap.words) words

  same_words : words ≡ flat core.types type v
  same_words = let both : Some words ≡ Some (flat core.types type v) = sym shown ∙ ap (λ vs. slice_get vs 0) (words_held is) in cc

  oldest_built : IsBuilt v (length heap.words) [] built
  oldest_built =
      subst (λ ws. IsBuilt v (length heap.words) [] (build_with (build_named core.types (length core.types.sums)) type (length heap.words) ws))
      (sym same_words)
      (value_built core.types frame.sizes (readable core frame) type v (length heap.words) (and_parts _ _ (typed_held is)).0)

  pub oldest_takes : length built.put ≡ built_of v
  oldest_takes = oldest_built.takes

  pub oldest_put : (new : HeapView) (word : ℕ) → new ≡ grown heap built.put → word ≡ built.word → IsPut v heap new word
  oldest_put new word grew is_word =
      let it = oldest_built in
      let put : new ≡ with_objects heap it.objects = grew ∙ ap (grown heap) it.words ∙ grown_objects heap it.objects in
      record {
        objects = it.objects;
        put = put;
        takes = ap (λ ws. length ws) (sym it.words) ∙ it.takes;
        has = λ before has. subst (λ h. HasObjects h (before ++ it.objects)) (sym put) (has_more heap before it.objects has it.tags);
        stands = λ before has. subst (Stands (before ++ it.objects) v) (sym is_word) (it.stands before (ap (λ ws. length ws) (sym has.words)));
      }

-- one value more, and then others

pub none_built : (heap : HeapView) (stack : StackView) → AreBuilt [] heap heap stack stack
none_built heap stack = record {
  objects = [];
  words = [];
  put = refl;
  pushed = refl;
  each = refl;
  takes = refl;
  has = λ before has. subst (HasObjects heap) (sym (append-nil before)) has;
  stand = λ before has. AllStand.none;
}

pub one_built : (v : Value) (heap new : HeapView) (stack top : StackView) (word : ℕ) → IsPut v heap new word → top ≡ with_word stack word
    → AreBuilt (v ∷ []) heap new stack top
one_built v heap new stack top word is pushed = record {
  objects = is.objects;
  words = word ∷ [];
  put = is.put;
  pushed = pushed;
  each = refl;
  takes = is.takes ∙ (let all = sum_more (built_of v) [] in (let e : built_of v ≡ sum (built_of v ∷ []) = omega (arith, all) in e));
  has = is.has;
  stand = λ before has. AllStand.more (is.stands before has) AllStand.none;
}

-- nothing is built at a position without a pattern
pub plain_built : (pat : InPat) → ((p : PatC) → pat ≡ Built p → ⊥) → (input : Option Value) (heap : HeapView) (stack : StackView)
    → AreBuilt (built_value pat input) heap heap stack stack
plain_built Star not input heap stack = none_built heap stack
plain_built AnyStar not input heap stack = none_built heap stack
plain_built Any not input heap stack = none_built heap stack
plain_built (Built p) not input heap stack = absurd (not p refl)

-- the oldest value at a position with a pattern, and what is built of it
pub record HasOldest (core : Core) (type : Ty) (pat : InPat) (cell : CellView) (held : List Value) : Type 0 where
  pub value : Value
  pub later : List Value
  pub is : IsCellOf core type cell (value ∷ later)
  pub takes : position_built pat (oldest held) ≡ built_of value
  pub one : built_value pat (oldest held) ≡ value ∷ []

pub oldest_there : (core : Core) (type : Ty) (pat : InPat) (p : PatC) → pat ≡ Built p → (cell : CellView) (held : List Value) → IsCellOf core type cell held
    → fits_at pat (oldest held) ≡ true → HasOldest core type pat cell held
oldest_there core type pat p same cell held is fit =
    subst (λ q. HasOldest core type q cell held) (sym same) (by held is (ap (λ q. fits_at q (oldest held)) (sym same) ∙ fit))
  where
    by : (held : List Value) → IsCellOf core type cell held → fits_at (Built p) (oldest held) ≡ true → HasOldest core type (Built p) cell held
    by [] is fit = cc
    by (v ∷ later) is fit = record { value = v; later = later; is = is; takes = refl; one = refl }

stand_both : (objects : List Object) (vs ws : List Value) (first second : List ℕ) → AllStand objects vs first → AllStand objects ws second
    → AllStand objects (vs ++ ws) (first ++ second)
stand_both objects [] ws [] second AllStand.none stand = stand
stand_both objects [] ws (w ∷ first) second stands stand = elim stands [ ]
stand_both objects (v ∷ vs) ws [] second stands stand = elim stands [ ]
stand_both objects (v ∷ vs) ws (w ∷ first) second (AllStand.more one others) stand = AllStand.more one (stand_both objects vs ws first second others stand)

sum_both : (ms ns : List ℕ) → sum (ms ++ ns) ≡ sum ms + sum ns
sum_both [] ns = omega arith
sum_both (m ∷ ms) ns = let a = sum_more m (ms ++ ns) in let c = sum_more m ms in let d = sum_both ms ns in omega (arith, a, c, d)

pub built_both : (vs ws : List Value) (h0 h1 h2 : HeapView) (s0 s1 s2 : StackView) → AreBuilt vs h0 h1 s0 s1 → AreBuilt ws h1 h2 s1 s2
    → AreBuilt (vs ++ ws) h0 h2 s0 s2
built_both vs ws h0 h1 h2 s0 s1 s2 first second = record {
  objects = first.objects ++ second.objects;
  words = first.words ++ second.words;
  put = second.put ∙ ap (λ h. with_objects h second.objects) first.put ∙ sym (objects_both h0 first.objects second.objects);
  pushed = second.pushed ∙ ap (λ s. with_words s second.words) first.pushed ∙ sym (words_both s0 first.words second.words);
  each = (let a = length-append first.words second.words in let c = length-append vs ws in omega (arith, a, c, first.each, second.each));
  takes = (
      let split = ap (λ ws. length ws) (flat_map-append words_of_object first.objects second.objects) in
      let both = length-append (flat_map words_of_object first.objects) (flat_map words_of_object second.objects) in
      let values = ap sum (map-append built_of vs ws) in
      let all = sum_both (map built_of vs) (map built_of ws) in
      omega (arith, split, both, values, all, first.takes, second.takes));
  has = λ before has. subst (HasObjects h2) (append_assoc before first.objects second.objects) (second.has (before ++ first.objects) (first.has before has));
  stand = λ before has. subst (λ os. AllStand os (vs ++ ws) (first.words ++ second.words)) (append_assoc before first.objects second.objects)
      (stand_both ((before ++ first.objects) ++ second.objects) vs ws first.words second.words
      (all_stand_still second.objects (first.stand before has)) (second.stand (before ++ first.objects) (first.has before has)));
}

-- positions

pub values_takes : (pats : List InPat) (ins : List (Option Value)) → sum (map built_of (built_values pats ins)) ≡ inputs_built pats ins
values_takes [] ins = refl
values_takes (pat ∷ pats) [] = refl
values_takes (pat ∷ pats) (input ∷ ins) =
    let split = ap sum (map-append built_of (built_value pat input) (built_values pats ins)) in
    let all = sum_both (map built_of (built_value pat input)) (map built_of (built_values pats ins)) in
    let one = value_takes pat input in
    let others = values_takes pats ins in
    omega (arith, split, all, one, others)
  where
    value_takes : (pat : InPat) (input : Option Value) → sum (map built_of (built_value pat input)) ≡ position_built pat input
    value_takes Star input = refl
    value_takes AnyStar input = refl
    value_takes Any input = refl
    value_takes (Built p) None = refl
    value_takes (Built p) (Some v) = let all = sum_more (built_of v) [] in (let e : sum (built_of v ∷ []) ≡ built_of v = omega (arith, all) in e)

-- so many words more, and as much room as before
pub more_words : (vs : List Value) (heap new : HeapView) (stack top : StackView) → AreBuilt vs heap new stack top
    → length new.words ≡ length heap.words + sum (map built_of vs)
more_words vs heap new stack top are =
    let put = ap (λ (h : HeapView). length h.words) are.put in
    let words = ap (λ ws. length ws) (objects_words heap are.objects) in
    let both = length-append heap.words (flat_map words_of_object are.objects) in
    omega (arith, put, words, both, are.takes)

pub same_room : (vs : List Value) (heap new : HeapView) (stack top : StackView) → AreBuilt vs heap new stack top → new.room ≡ heap.room
same_room vs heap new stack top are = ap (λ (h : HeapView). h.room) are.put ∙ objects_room heap are.objects

pub more_pushed : (vs : List Value) (heap new : HeapView) (stack top : StackView) → AreBuilt vs heap new stack top
    → length top.words ≡ length stack.words + length vs
more_pushed vs heap new stack top are =
    let pushed = ap (λ (s : StackView). length s.words) are.pushed in
    let words = ap (λ ws. length ws) (words_words stack are.words) in
    let both = length-append stack.words are.words in
    omega (arith, pushed, words, both, are.each)

pub same_stack_room : (vs : List Value) (heap new : HeapView) (stack top : StackView) → AreBuilt vs heap new stack top → top.room ≡ stack.room
same_stack_room vs heap new stack top are = ap (λ (s : StackView). s.room) are.pushed ∙ words_room stack are.words

-- what is built at a position, and before it
pub record IsAt (core : Core) (pats : List InPat) (ins : List (Option Value)) (i : ℕ) (type : Ty) (pat : InPat) (cell : CellView) : Type 0 where
  pub held : List Value
  pub is : IsCellOf core type cell held
  pub fitting : fits_at pat (oldest held) ≡ true
  pub next : built_values (take (i + 1) pats) ins ≡ built_values (take i pats) ins ++ built_value pat (oldest held)
  pub heap : sum (map built_of (built_values (take i pats) ins)) + position_built pat (oldest held) ≤ inputs_built pats ins
  pub stack : length (built_values (take i pats) ins) + length (built_value pat (oldest held)) ≤ length (built_patterns pats)

more_patterns : (pat : InPat) (pats : List InPat) (input : Option Value)
    → length (built_value pat input) + length (built_patterns pats) ≤ length (built_patterns (pat ∷ pats))
more_patterns Star pats input = omega arith
more_patterns AnyStar pats input = omega arith
more_patterns Any pats input = omega arith
more_patterns (Built p) pats None = omega arith
more_patterns (Built p) pats (Some v) = omega arith

pub position_at : (core : Core) (pats : List InPat) {types : List Ty} {cells : List CellView} {values : List (List Value)} → AreCellsOf core types cells values
    → fits pats (map oldest values) ≡ true → (i : ℕ) (type : Ty) (pat : InPat) (cell : CellView) → i < length pats → i < length cells
    → type ≡ get_or types i type → pat ≡ get_or pats i pat → cell ≡ get_or cells i cell → IsAt core pats (map oldest values) i type pat cell
position_at core [] are fit i type pat cell less within type_is pat_is cell_is = absurd (omega (arith, less))
position_at core (p ∷ pats) AreCellsOf.none fit i type pat cell less within type_is pat_is cell_is = absurd (omega (arith, within))
position_at core (p ∷ pats) (AreCellsOf.more {type = t} {cell = c} {held = held} {others = others} one rest) fit zero type pat cell less within
    type_is pat_is cell_is =
    let ins = oldest held ∷ map oldest others in
    subst (λ u. IsAt core (p ∷ pats) ins 0 u pat cell) (sym type_is)
    (subst (λ q. IsAt core (p ∷ pats) ins 0 t q cell) (sym pat_is)
    (subst (IsAt core (p ∷ pats) ins 0 t p) (sym cell_is) (record {
      held = held;
      is = one;
      fitting = (and_parts (fits_at p (oldest held)) (fits pats (map oldest others)) fit).0;
      next = append-nil (built_value p (oldest held));
      heap = omega arith;
      stack = (let more = more_patterns p pats (oldest held) in omega (arith, more));
    })))
position_at core (p ∷ pats) (AreCellsOf.more {type = t} {cell = c} {held = held} {others = others} one rest) fit
    (suc i) type pat cell less within type_is pat_is cell_is =
    let at = position_at core pats rest (and_parts (fits_at p (oldest held)) (fits pats (map oldest others)) fit).1 i type pat cell (omega (arith, less))
    (omega (arith, within)) type_is pat_is cell_is in
    let ins = map oldest others in
    let first = built_value p (oldest held) in
    let step : suc i + 1 ≡ suc (i + 1) = omega arith in
    record {
      held = at.held;
      is = at.is;
      fitting = at.fitting;
      next = ap (λ n. built_values (take n (p ∷ pats)) (oldest held ∷ ins)) step ∙ ap (λ vs. first ++ vs) at.next
          ∙ sym (append_assoc first (built_values (take i pats) ins) (built_value pat (oldest at.held)));
      heap = (
          let split = ap sum (map-append built_of first (built_values (take i pats) ins)) in
          let all = sum_both (map built_of first) (map built_of (built_values (take i pats) ins)) in
          let own = values_takes (p ∷ []) (oldest held ∷ []) in
          let alone = ap (λ vs. sum (map built_of vs)) (append-nil first) in
          omega (arith, split, all, own, alone, at.heap));
      stack = (
          let both = length-append first (built_values (take i pats) ins) in
          let more = more_patterns p pats (oldest held) in
          omega (arith, both, more, at.stack));
    }

-- the type of the port at a place
pub type_at : (ports : List PortC) (i : ℕ) (port : PortC) → i < length ports
    → (get_or ports i port).ty ≡ get_or (port_types ports) i (get_or ports i port).ty
type_at [] i port less = absurd (omega (arith, less))
type_at (p ∷ ports) zero port less = refl
type_at (p ∷ ports) (suc i) port less = type_at ports i port (omega (arith, less))

-- there are as many cells as ports
pub as_many_ports : (core : Core) (ports : List PortC) {cells : List CellView} {values : List (List Value)}
    → AreCellsOf core (port_types ports) cells values → length cells ≡ length ports
as_many_ports core ports are = as_many_types are ∙ length-map ports (λ (port : PortC). port.ty)
  where
    as_many_types : {types : List Ty} {cells : List CellView} {values : List (List Value)} → AreCellsOf core types cells values
        → length cells ≡ length types
    as_many_types AreCellsOf.none = refl
    as_many_types (AreCellsOf.more one rest) = ap (λ n. suc n) (as_many_types rest)

-- a rule that fits has no more positions than there are cells
pub fits_long : (core : Core) (pats : List InPat) {types : List Ty} {cells : List CellView} {values : List (List Value)} → AreCellsOf core types cells values
    → fits pats (map oldest values) ≡ true → length pats ≤ length cells
fits_long core [] are fit = omega arith
fits_long core (p ∷ pats) AreCellsOf.none fit = cc
fits_long core (p ∷ pats) (AreCellsOf.more {held = held} {others = others} one rest) fit =
    let more = fits_long core pats rest (and_parts (fits_at p (oldest held)) (fits pats (map oldest others)) fit).1 in omega (arith, more)

-- of a rule that fits each position with a pattern has its value
pub values_many : (pats : List InPat) (ins : List (Option Value)) → fits pats ins ≡ true → length (built_values pats ins) ≡ length (built_patterns pats)
values_many [] ins fit = refl
values_many (pat ∷ pats) [] fit = cc
values_many (Star ∷ pats) (input ∷ ins) fit = values_many pats ins fit
values_many (AnyStar ∷ pats) (input ∷ ins) fit = values_many pats ins fit
values_many (Any ∷ pats) (input ∷ ins) fit = values_many pats ins (and_parts (fits_at Any input) (fits pats ins) fit).1
values_many (Built p ∷ pats) (None ∷ ins) fit = cc
values_many (Built p ∷ pats) (Some v ∷ ins) fit = ap (λ n. suc n) (values_many pats ins (and_parts (fits_at (Built p) (Some v)) (fits pats ins) fit).1)
