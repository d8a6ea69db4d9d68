-- A field of an object that has another word.
use Rattle.std.proofs.Common.{◌≡◌, ℕ, suc, refl, ◌+◌, ◌-◌, ◌*◌, ◌<◌, ◌==◌, nat_lt, Bool, true, false, cond, List, [], ◌∷◌, ◌++◌, length, Some, None, slice_set, ap, sym, ◌∙◌, subst, arith}
use Rattle.std.specs.List.{All, flat_map}
use Rattle.std.proofs.lemmas.Bool.{eqb-true, ltb-false}
use Rattle.std.proofs.lemmas.List.{length-set, set-append_left, set-append_right}
use Rattle.std.proofs.lemmas.List.Elements.{All-cons, All-head, All-tail}
use Rattle.box_heap.specs.Heaps.{HeapView, HasObjects, Object, object_at, with_field, words_of_object}

-- whether the field is one of the first object's
abbrev Changed : Object → List Object → ℕ → ℕ → ℕ → Bool → Type 0
Changed o os at i word first =
    flat_map words_of_object (cond first ((o.0, slice_set o.1 i word) ∷ os) (o ∷ with_field os (at - (1 + length o.1)) i word))
    ≡ slice_set (words_of_object o ++ flat_map words_of_object os) (at + 1 + i) word

changed_first : (o : Object) (os : List Object) (at i word : ℕ) → at ≡ 0 → i < length o.1 → Changed o os at i word true
changed_first o os at i word front within =
    let others = flat_map words_of_object os in
    let many = length-set o.1 i word in
    ap (λ n. (o.0 + 4294967296 * n) ∷ (slice_set o.1 i word ++ others)) many
    ∙ ap (λ ws. (o.0 + 4294967296 * length o.1) ∷ ws) (sym (set-append_left o.1 others i word within))
    ∙ ap (λ n. slice_set (words_of_object o ++ others) n word) (let place : suc i ≡ at + 1 + i = omega (arith, front) in place)

changed_later : (o : Object) (os : List Object) (at i word : ℕ) → 1 + length o.1 < at + 1
    → flat_map words_of_object (with_field os (at - (1 + length o.1)) i word) ≡ slice_set (flat_map words_of_object os) (at - (1 + length o.1) + 1 + i) word
    → Changed o os at i word false
changed_later o os at i word past later =
    let others = flat_map words_of_object os in
    let own : length (words_of_object o) ≡ 1 + length o.1 = omega arith in
    let place : at - (1 + length o.1) + 1 + i ≡ at + 1 + i - (1 + length o.1) = omega (arith, past) in
    ap (λ ws. words_of_object o ++ ws) (later ∙ ap (λ n. slice_set others n word) place)
    ∙ sym (set-append_right (words_of_object o) others (1 + length o.1) (at + 1 + i) word own (omega (arith, past)))

changed_words : (objects : List Object) (at : ℕ) (object : Object) (i word : ℕ) → object_at objects at ≡ Some object → i < length object.1
    → flat_map words_of_object (with_field objects at i word) ≡ slice_set (flat_map words_of_object objects) (at + 1 + i) word
changed_words [] at object i word found within = cc
changed_words (o ∷ os) at object i word found within =
    by_first (at == 0) (nat_lt at (1 + length o.1)) refl refl found (λ place is. changed_words os place object i word is within)
  where
    by_first : (first before : Bool) → (at == 0) ≡ first → nat_lt at (1 + length o.1) ≡ before
        → cond first (Some o) (cond before None (object_at os (at - (1 + length o.1)))) ≡ Some object
        → ((place : ℕ) → object_at os place ≡ Some object
        → flat_map words_of_object (with_field os place i word) ≡ slice_set (flat_map words_of_object os) (place + 1 + i) word)
        → Changed o os at i word (at == 0)
    by_first true before at_it front is later =
        let same : o ≡ object = cc in
        subst (Changed o os at i word) (sym at_it)
        (changed_first o os at i word (eqb-true at 0 at_it) (subst (λ (x : Object). i < length x.1) (sym same) within))
    by_first false true at_it front is later = cc
    by_first false false at_it front is later =
        let past = ltb-false at (1 + length o.1) front in
        subst (Changed o os at i word) (sym at_it)
        (changed_later o os at i word (omega (arith, past)) (later (at - (1 + length o.1)) is))

abbrev Tagged : Object → Type 0
Tagged object = object.0 < 4294967296

tags_when : (first : Bool) (o changed : Object) (os others : List Object) → Tagged o → Tagged changed → All Tagged os → All Tagged others
    → All Tagged (cond first (changed ∷ os) (o ∷ others))
tags_when true o changed os others tagged still all rest = All-cons Tagged changed os still all
tags_when false o changed os others tagged still all rest = All-cons Tagged o others tagged rest

same_tags : (objects : List Object) (at i word : ℕ) → All Tagged objects → All Tagged (with_field objects at i word)
same_tags [] at i word all = all
same_tags (o ∷ os) at i word all =
    let tagged = All-head Tagged o os all in
    let rest = All-tail Tagged o os all in
    tags_when (at == 0) o (o.0, slice_set o.1 i word) os (with_field os (at - (1 + length o.1)) i word) tagged tagged rest
    (same_tags os (at - (1 + length o.1)) i word rest)

pub field_changed : (heap new : HeapView) (objects : List Object) (at : ℕ) (object : Object) (i word : ℕ) → HasObjects heap objects
    → object_at objects at ≡ Some object → i < length object.1 → new ≡ record heap { words = slice_set heap.words (at + 1 + i) word }
    → HasObjects new (with_field objects at i word)
field_changed heap new objects at object i word has found within is = record {
  words = ap (λ (h : HeapView). h.words) is
      ∙ ap (λ ws. slice_set ws (at + 1 + i) word) has.words ∙ sym (changed_words objects at object i word found within);
  tags = same_tags objects at i word has.tags;
}
