-- Where the words of objects stand.
use Rattle.std.proofs.Common.{◌≡◌, ℕ, zero, suc, ◌+◌, ◌-◌, ◌*◌, ◌/◌, ◌%◌, ◌<◌, ◌==◌, nat_lt, Bool, true, false, cond, List, [], ◌∷◌, ◌++◌, length, get_or, Option, Some, None, slice_get, refl, ap, sym, ◌∙◌, subst, arith}
use Rattle.std.specs.List.{All, flat_map}
use Rattle.std.proofs.lemmas.Bool.{eqb-true, ltb-false}
use Rattle.std.proofs.lemmas.Option.{slice_get_within, slice_get-get_or}
use Rattle.box_heap.specs.Heaps.{HeapView, HasObjects, Object, object_at, words_of_object}

get_front : (xs ys : List ℕ) (i : ℕ) → i < length xs → slice_get (xs ++ ys) i ≡ slice_get xs i
get_front [] ys i less = absurd (omega (arith, less))
get_front (x ∷ xs) ys zero less = refl
get_front (x ∷ xs) ys (suc i) less = get_front xs ys i (omega (arith, less))

get_behind : (xs ys : List ℕ) (i j : ℕ) → j ≡ length xs + i → slice_get (xs ++ ys) j ≡ slice_get ys i
get_behind [] ys i j same = ap (slice_get ys) (let e : j ≡ i = omega (arith, same) in e)
get_behind (x ∷ xs) ys i zero same = absurd (omega (arith, same))
get_behind (x ∷ xs) ys i (suc j) same = get_behind xs ys i j (omega (arith, same))

-- of the objects behind the first one it is said already
by_place : (o object : Object) (os : List Object) (at i : ℕ) → i < 1 + length object.1
    → ((place : ℕ) → object_at os place ≡ Some object → slice_get (flat_map words_of_object os) (place + i) ≡ slice_get (words_of_object object) i)
    → (first before : Bool) → (at == 0) ≡ first → nat_lt at (1 + length o.1) ≡ before
    → cond first (Some o) (cond before None (object_at os (at - (1 + length o.1)))) ≡ Some object
    → slice_get (words_of_object o ++ flat_map words_of_object os) (at + i) ≡ slice_get (words_of_object object) i
by_place o object os at i within later true before at_it is found =
    let at_front : at ≡ 0 = eqb-true at 0 at_it in
    let same : o ≡ object = cc in
    let place : at + i ≡ i = omega (arith, at_front) in
    ap (slice_get (words_of_object o ++ flat_map words_of_object os)) place
    ∙ ap (λ (x : Object). slice_get (words_of_object x ++ flat_map words_of_object os) i) same
    ∙ get_front (words_of_object object) (flat_map words_of_object os) i
    (let long : length (words_of_object object) ≡ 1 + length object.1 = omega arith in omega (arith, within, long))
by_place o object os at i within later false true at_it is found = cc
by_place o object os at i within later false false at_it is found =
    let past = ltb-false at (1 + length o.1) is in
    let long : length (words_of_object o) ≡ 1 + length o.1 = omega arith in
    let place : at + i ≡ length (words_of_object o) + (at - (1 + length o.1) + i) = omega (arith, past, long) in
    get_behind (words_of_object o) (flat_map words_of_object os) (at - (1 + length o.1) + i) (at + i) place ∙ later (at - (1 + length o.1)) found

words_at : (objects : List Object) (at : ℕ) (object : Object) → object_at objects at ≡ Some object → (i : ℕ) → i < 1 + length object.1
    → slice_get (flat_map words_of_object objects) (at + i) ≡ slice_get (words_of_object object) i
words_at [] at object found i within = cc
words_at (o ∷ os) at object found i within =
    by_place o object os at i within (λ place later. words_at os place object later i within) (at == 0) (nat_lt at (1 + length o.1)) refl refl found

-- each object that is found is one of them
is_of : (P : Object → Type 0) (objects : List Object) (at : ℕ) (object : Object) → All P objects → object_at objects at ≡ Some object → P object
is_of P [] at object all found = cc
is_of P (o ∷ os) at object all found = by_first (at == 0) (nat_lt at (1 + length o.1)) found
    (λ place later. is_of P os place object (λ k d less. all (suc k) d (omega (arith, less))) later)
  where
    by_first : (first before : Bool) → cond first (Some o) (cond before None (object_at os (at - (1 + length o.1)))) ≡ Some object
        → ((place : ℕ) → object_at os place ≡ Some object → P object) → P object
    by_first true before is later = let same : o ≡ object = cc in subst P same (all 0 o (omega arith))
    by_first false true is later = cc
    by_first false false is later = later (at - (1 + length o.1)) is

module _ (heap : HeapView) (objects : List Object) (has : HasObjects heap objects) (at : ℕ) (object : Object) (found : object_at objects at ≡ Some object) where
  word_of : (i : ℕ) → i < 1 + length object.1 → slice_get heap.words (at + i) ≡ slice_get (words_of_object object) i
  word_of i within = ap (λ ws. slice_get ws (at + i)) has.words ∙ words_at objects at object found i within

  header_of : slice_get heap.words at ≡ Some (object.0 + 4294967296 * length object.1)
  header_of =
      let place : at ≡ at + 0 = omega arith in
      ap (slice_get heap.words) place ∙ word_of 0 (omega arith)

  -- its first word is one of the heap's, and has its tag and the number of its fields
  pub place_within : at < length heap.words
  place_within = slice_get_within heap.words at (object.0 + 4294967296 * length object.1) header_of

  some_word : (word : ℕ) → slice_get heap.words at ≡ Some word → word ≡ object.0 + 4294967296 * length object.1
  some_word word there = let same : ◌≡◌ {A = Option ℕ} (Some word) (Some (object.0 + 4294967296 * length object.1)) = sym there ∙ header_of in cc

  small : object.0 < 4294967296
  small = is_of (λ (o : Object). o.0 < 4294967296) objects at object has.tags found

  pub count_of : (word : ℕ) → slice_get heap.words at ≡ Some word → word / 4294967296 ≡ length object.1
  count_of word there =
      let is = some_word word there in
      let low = small in
      omega (arith, is, low)

  pub tag_of : (word : ℕ) → slice_get heap.words at ≡ Some word → word % 4294967296 ≡ object.0
  tag_of word there =
      let is = some_word word there in
      let low = small in
      omega (arith, is, low)

  -- its fields follow
  pub field_of : (i place : ℕ) → place ≡ at + 1 + i → i < length object.1 → slice_get heap.words place ≡ slice_get object.1 i
  field_of i place same within =
      let next : place ≡ at + suc i = omega (arith, same) in
      ap (slice_get heap.words) next ∙ word_of (suc i) (omega (arith, within))

  pub field_within : (i : ℕ) → i < length object.1 → at + 1 + i < length heap.words
  field_within i within = slice_get_within heap.words (at + 1 + i) (get_or object.1 i 0)
      (field_of i (at + 1 + i) refl within ∙ slice_get-get_or object.1 i 0 within)
