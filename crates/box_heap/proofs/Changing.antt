-- An object that is put once more with another word in one field.
use Rattle.std.proofs.Common.{◌≡◌, ℕ, zero, suc, ◌+◌, ◌-◌, ◌*◌, ◌<◌, ◌≤◌, ◌==◌, nat_lt, Bool, true, false, cond, List, [], ◌∷◌, ◌++◌, length, take, drop, max, Some, None, slice_set, refl, ap, sym, ◌∙◌, arith, length-append}
use Rattle.std.specs.List.{flat_map, copy_within}
use Rattle.std.proofs.lemmas.Bool.{eqb-true, ltb-false}
use Rattle.std.proofs.lemmas.List.{drop-take, length-drop, length-set, set-append_right}
use Rattle.std.proofs.lemmas.List.Edits.{take-paste}
use Rattle.std.proofs.Math.Seq.{take-append_seam, drop-append-add}
use Rattle.box_heap.specs.Heaps.{HeapView, HasObjects, Object, object_at, words_of_object, with_object}
use Rattle.box_heap.proofs.Sliding.{take_fewer}
use Rattle.box_heap.proofs.Objects.{field_within, place_within}

-- words that are written behind those in use, and were among them
pub again : (items new : List ℕ) (used from count : ℕ) → new ≡ copy_within items from (from + count) used → from + count ≤ used → used + count ≤ length items
    → take (used + count) new ≡ take used items ++ take count (drop from (take used items))
again items new used from count copied there fits =
    let many : from + count - from ≡ count = omega arith in
    let long : length (drop from items) ≡ length items - from = length-drop from items in
    let split : used ≡ from + (used - from) = omega (arith, there) in
    let enough : count ≤ length (drop from items) = omega (arith, long, there, fits) in
    ap (take (used + count)) copied
    ∙ (rw many (take-paste items used (drop from items) count (omega (arith, fits)) enough))
    ∙ ap (λ ws. take used items ++ ws) (sym (ap (λ n. take count (drop from (take n items))) split
    ∙ ap (take count) (drop-take from (used - from) items)
    ∙ take_fewer count (used - from) (drop from items) (omega (arith, there))))

-- the words of an object that is there
object_words : (objects : List Object) (at : ℕ) (object : Object) → object_at objects at ≡ Some object
    → take (1 + length object.1) (drop at (flat_map words_of_object objects)) ≡ words_of_object object
object_words [] at object found = cc
object_words (o ∷ os) at object found = by_first (at == 0) (nat_lt at (1 + length o.1)) refl refl found (λ place later. object_words os place object later)
  where
    by_first : (first before : Bool) → (at == 0) ≡ first → nat_lt at (1 + length o.1) ≡ before
        → cond first (Some o) (cond before None (object_at os (at - (1 + length o.1)))) ≡ Some object
        → ((place : ℕ) → object_at os place ≡ Some object → take (1 + length object.1) (drop place (flat_map words_of_object os)) ≡ words_of_object object)
        → take (1 + length object.1) (drop at (words_of_object o ++ flat_map words_of_object os)) ≡ words_of_object object
    by_first true before at_it front is later =
        let same : o ≡ object = cc in
        let zero_place : at ≡ 0 = eqb-true at 0 at_it in
        ap (λ n. take (1 + length object.1) (drop n (words_of_object o ++ flat_map words_of_object os))) zero_place
        ∙ ap (λ (x : Object). take (1 + length object.1) (words_of_object x ++ flat_map words_of_object os)) same
        ∙ ap (λ n. take n (words_of_object object ++ flat_map words_of_object os))
        (let own : 1 + length object.1 ≡ length (words_of_object object) = omega arith in own)
        ∙ take-append_seam (words_of_object object) (flat_map words_of_object os)
    by_first false true at_it front is later = cc
    by_first false false at_it front is later =
        let past = ltb-false at (1 + length o.1) front in
        let split : at ≡ length (words_of_object o) + (at - (1 + length o.1)) = omega (arith, past) in
        ap (λ n. take (1 + length object.1) (drop n (words_of_object o ++ flat_map words_of_object os))) split
        ∙ ap (take (1 + length object.1)) (drop-append-add (words_of_object o) (flat_map words_of_object os) (at - (1 + length o.1)))
        ∙ later (at - (1 + length o.1)) is

module _ (heap : HeapView) (objects : List Object) (has : HasObjects heap objects) (at : ℕ) (object : Object) (found : object_at objects at ≡ Some object) where
  words_again : take (1 + length object.1) (drop at heap.words) ≡ words_of_object object
  words_again = ap (λ ws. take (1 + length object.1) (drop at ws)) has.words ∙ object_words objects at object found

  -- they are among the heap's
  pub object_within : at + (1 + length object.1) ≤ length heap.words
  object_within = by_count (length object.1) refl
    where
      by_count : (count : ℕ) → length object.1 ≡ count → at + (1 + length object.1) ≤ length heap.words
      by_count zero none = let there = place_within heap objects has at object found in omega (arith, there, none)
      by_count (suc count) some =
          let last : length object.1 - 1 < length object.1 = omega (arith, some) in
          let there = field_within heap objects has at object found (length object.1 - 1) last in
          omega (arith, some, there)

  -- with them there are so many
  pub pushed_again : (pushed : HeapView) → pushed ≡ record heap { words = heap.words ++ take (1 + length object.1) (drop at heap.words) }
      → length pushed.words ≡ length heap.words + (1 + length object.1)
  pushed_again pushed push =
      let own_length : length (words_of_object object) ≡ 1 + length object.1 = omega arith in
      ap (λ (h : HeapView). length h.words) push ∙ ap (λ ws. length (heap.words ++ ws)) words_again
      ∙ length-append heap.words (words_of_object object) ∙ ap (λ n. length heap.words + n) own_length

  -- one of them changes in the object that is put
  pub changed : (i word used : ℕ) (pushed set raised : HeapView) → used ≡ length heap.words
      → pushed ≡ record heap { words = heap.words ++ take (1 + length object.1) (drop at heap.words) }
      → set ≡ record pushed { words = slice_set pushed.words (used + 1 + i) word }
      → raised ≡ record set { peak = max set.peak (length set.words) }
      → raised ≡ with_object heap (object.0, slice_set object.1 i word)
  changed i word used pushed set raised own push changes raise =
      let fields = slice_set object.1 i word in
      let many : length fields ≡ length object.1 = length-set object.1 i word in
      let whole : pushed.words ≡ heap.words ++ words_of_object object = ap (λ (h : HeapView). h.words) push ∙ ap (λ ws. heap.words ++ ws) words_again in
      let place : used + 1 + i - length heap.words ≡ suc i = omega (arith, own) in
      let one : slice_set pushed.words (used + 1 + i) word ≡ heap.words ++ words_of_object (object.0, fields) =
      ap (λ ws. slice_set ws (used + 1 + i) word) whole
      ∙ set-append_right heap.words (words_of_object object) (length heap.words) (used + 1 + i) word refl (omega (arith, own))
      ∙ ap (λ n. heap.words ++ slice_set (words_of_object object) n word) place
      ∙ ap (λ n. heap.words ++ (object.0 + 4294967296 * n) ∷ fields) (sym many) in
      let own_length : length (words_of_object (object.0, fields)) ≡ 1 + length fields = omega arith in
      let long : length (heap.words ++ words_of_object (object.0, fields)) ≡ length heap.words + (1 + length fields) =
      length-append heap.words (words_of_object (object.0, fields)) ∙ ap (λ n. length heap.words + n) own_length in
      raise ∙ ap (λ (h : HeapView). record h { peak = max h.peak (length h.words) }) changes
      ∙ ap (λ ws. record pushed { words = ws; peak = max pushed.peak (length ws) }) one
      ∙ ap (λ (h : HeapView). record h {
        words = heap.words ++ words_of_object (object.0, fields);
        peak = max h.peak
            (length (heap.words ++ words_of_object (object.0, fields)));
      }) push
      ∙ ap (λ n. record heap { words = heap.words ++ words_of_object (object.0, fields); peak = max heap.peak n }) long
