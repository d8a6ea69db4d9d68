-- The objects whose words a heap has.
use Rattle.std.proofs.Common.{◌≡◌, ℕ, zero, suc, ◌+◌, ◌*◌, ◌/◌, ◌%◌, ◌<◌, ◌≤◌, List, [], ◌∷◌, ◌++◌, length, take, drop, get_or, Option, Some, None, slice_get, refl, ap, sym, ◌∙◌, subst, arith, length-append, append-nil, append_assoc}
use Rattle.std.specs.List.{All, flat_map}
use Rattle.std.proofs.Math.Seq.{take-append_seam, drop-append_seam}
use Rattle.std.proofs.lemmas.Grind.{flat_map-append}
use Rattle.std.proofs.lemmas.Option.{slice_get-get_or}
use Rattle.box_heap.specs.Heaps.{HeapView, HasObjects, Object, object_at, words_of_object, with_object, with_objects}
use Rattle.box_heap.proofs.Staying.{objects_kept}
use Rattle.box_heap.proofs.Objects.{tag_of, place_within}
use Rattle.box_code.specs.Machine.{field_of, tag_of as object_tag, used}
use Rattle.box_machine.specs.inner.Stepping.{objects_from, objects_in, IsHeap, Keeps}

from_none : (most : ℕ) → objects_from most [] ≡ []
unfolding objects_from
from_none zero = refl
from_none (suc most) = refl

from_more : (most header : ℕ) (words : List ℕ) → objects_from (suc most) (header ∷ words)
    ≡ (header % 4294967296, take (header / 4294967296) words) ∷ objects_from most (drop (header / 4294967296) words)
unfolding objects_from
from_more most header words = refl

from_words : (most : ℕ) (objects : List Object) → All (λ (object : Object). object.0 < 4294967296) objects → length (flat_map words_of_object objects) ≤ most
    → objects_from most (flat_map words_of_object objects) ≡ objects
from_words most [] small few = from_none most
from_words zero (o ∷ os) small few =
    let long : length (words_of_object o ++ flat_map words_of_object os) ≡ length (words_of_object o) + length (flat_map words_of_object os) = length-append
    (words_of_object o) (flat_map words_of_object os) in
    let own : length (words_of_object o) ≡ 1 + length o.1 = omega arith in
    absurd (omega (arith, few, long, own))
from_words (suc most) (o ∷ os) small few =
    let rest : List ℕ = flat_map words_of_object os in
    let header : ℕ = o.0 + 4294967296 * length o.1 in
    let low : o.0 < 4294967296 = small 0 o (omega arith) in
    let tag : header % 4294967296 ≡ o.0 = omega (arith, low) in
    let count : header / 4294967296 ≡ length o.1 = omega (arith, low) in
    let long : length (words_of_object o ++ rest) ≡ length (words_of_object o) + length rest = length-append (words_of_object o) rest in
    let own : length (words_of_object o) ≡ 1 + length o.1 = omega arith in
    from_more most header (o.1 ++ rest)
    ∙ (λ i. (tag i, take (count i) (o.1 ++ rest)) ∷ objects_from most (drop (count i) (o.1 ++ rest)))
    ∙ (λ i. (o.0, take-append_seam o.1 rest i) ∷ objects_from most (drop-append_seam o.1 rest i))
    ∙ ap (λ more. o ∷ more) (from_words most os (λ k d less. small (suc k) d (omega (arith, less))) (omega (arith, few, long, own)))

-- there are no others
pub only_these : (heap : HeapView) (objects : List Object) → HasObjects heap objects → objects_in heap ≡ objects
only_these heap objects has =
    (λ i. objects_from (length (has.words i)) (has.words i)) ∙ from_words (length (flat_map words_of_object objects)) objects has.tags (omega arith)

pub is_heap : (heap : HeapView) (objects : List Object) → HasObjects heap objects → IsHeap heap
is_heap heap objects has = record { held = subst (λ os. HasObjects heap os) (sym (only_these heap objects has)) has }

-- the words that they take are the heap's
pub used_is : (heap : HeapView) → IsHeap heap → used (objects_in heap) ≡ length heap.words
used_is heap h = ap length (sym h.held.words)

-- so many words they take with another
pub put_long : (heap : HeapView) → IsHeap heap → (tag : ℕ) (fields : List ℕ)
    → used (objects_in heap ++ (tag, fields) ∷ []) ≡ length heap.words + (1 + length fields)
put_long heap h tag fields =
    let own : length (words_of_object (tag, fields)) ≡ 1 + length fields = omega arith in
    ap (λ ws. length ws) (flat_map-append words_of_object (objects_in heap) ((tag, fields) ∷ []))
    ∙ length-append (flat_map words_of_object (objects_in heap)) (words_of_object (tag, fields) ++ [])
    ∙ (λ i. used_is heap h i + length (append-nil (words_of_object (tag, fields)) i)) ∙ ap (λ n. length heap.words + n) own

-- an object more
module _ (heap : HeapView) (h : IsHeap heap) (tag : ℕ) (fields : List ℕ) (small : tag < 4294967296) where
  put_held : HasObjects (with_object heap (tag, fields)) (objects_in heap ++ (tag, fields) ∷ [])
  put_held = objects_kept heap (with_object heap (tag, fields)) (objects_in heap) (tag, fields) h.held small refl

  pub put_objects : objects_in (with_object heap (tag, fields)) ≡ objects_in heap ++ (tag, fields) ∷ []
  put_objects = only_these (with_object heap (tag, fields)) (objects_in heap ++ (tag, fields) ∷ []) put_held

  pub put_keeps : Keeps heap (with_object heap (tag, fields))
  put_keeps = record {
    heap = is_heap (with_object heap (tag, fields)) (objects_in heap ++ (tag, fields) ∷ []) put_held;
    more = (tag, fields) ∷ [];
    objects = put_objects;
    put = refl;
    room = refl;
  }

pub same_keeps : (heap : HeapView) → IsHeap heap → Keeps heap heap
same_keeps heap h = record { heap = h; more = []; objects = sym (append-nil (objects_in heap)); put = refl; room = refl }

with_both : (heap : HeapView) (first second : List Object) → with_objects (with_objects heap first) second ≡ with_objects heap (first ++ second)
with_both heap [] second = refl
with_both heap (object ∷ first) second = with_both (with_object heap object) first second

pub keeps_on : (old mid new : HeapView) → Keeps old mid → Keeps mid new → Keeps old new
keeps_on old mid new one two = record {
  heap = two.heap;
  more = one.more ++ two.more;
  objects = two.objects ∙ ap (λ os. os ++ two.more) one.objects ∙ append_assoc (objects_in old) one.more two.more;
  put = two.put ∙ ap (λ h. with_objects h two.more) one.put ∙ with_both old one.more two.more;
  room = two.room ∙ one.room;
}

-- the tag of an object that is there has 32 bits
pub small_tag : (heap : HeapView) → IsHeap heap → (at : ℕ) (object : Object) → object_at (objects_in heap) at ≡ Some object → object.0 < 4294967296
small_tag heap h at object found =
    let within = place_within heap (objects_in heap) h.held at object found in
    let tag = tag_of heap (objects_in heap) h.held at object found (get_or heap.words at 0) (slice_get-get_or heap.words at 0 within) in
    omega (arith, tag)

-- a field that is there is one of an object that is there
pub some_object : (o : Option Object) (number word : ℕ) → field_of o number ≡ Some word
    → (object : Object) × (o ≡ Some object) × (slice_get object.1 number ≡ Some word)
some_object None number word is = cc
some_object (Some object) number word is = (object, refl, is)

pub some_tag : (o : Option Object) (tag : ℕ) → object_tag o ≡ Some tag → (object : Object) × (o ≡ Some object) × (object.0 ≡ tag)
some_tag None tag is = cc
some_tag (Some object) tag is = (object, refl, cc)
