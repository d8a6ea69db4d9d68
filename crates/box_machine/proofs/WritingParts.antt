-- How the fields of an object are written one after another.
use Rattle.std.proofs.Common.{◌≡◌, ℕ, suc, ◌+◌, ◌<◌, ◌≤◌, List, [], ◌∷◌, map, take, length, get_or, Option, Some, None, slice_get, refl, ap, sym, ◌∙◌, subst, arith}
use Rattle.std.specs.Option.{option_map, option_and_then}
use Rattle.std.proofs.lemmas.List.{take_all}
use Rattle.std.proofs.lemmas.Option.{slice_get_within, slice_get-get_or, slice_get_read}
use denote.Param.Weighed.{most}
use Rattle.hume_base.specs.declared.types.Ty.{Ty, size-Ty}
use Rattle.hume_base.specs.declared.types.Ty.TheOpen.{Ty-F}
use Rattle.hume_base.specs.declared.types.Ty.TheVariants as shape
use Rattle.hume_base.specs.declared.types.SumDef.{SumDef}
use Rattle.hume_base.specs.declared.types.ConDef.{ConDef}
use Rattle.hume_base.specs.Values.{fields_at, fields_of}
use Rattle.hume_model.proofs.Ranks.{slice_get-most}
use Rattle.box_heap.specs.Heaps.{HeapView, Object, object_at}
use Rattle.box_heap.proofs.Objects.{field_within}
use Rattle.box_code.specs.FlatObjects.{Flattening, flat_at_with, joined_words, item_words}
use Rattle.box_code.specs.Machine.{field_of, tag_of}
use Rattle.box_machine.specs.inner.Stepping.{IsHeap, objects_in}
use Rattle.box_machine.specs.inner.Written.{AreWritten, HaveRoomAt, con_at, items_at, parts_at}
use Rattle.box_machine.proofs.Held.{some_object}
use Rattle.box_machine.proofs.Writing.{Piece, form, item_piece, object_there, part_field, part_piece, parts_whole, piece_room, piece_written}

-- an item that is seen through a pointer
pub seen_at : (tys : List Ty) (i : ℕ) (ty seen : Ty) → seen ≡ ty → ty ≡ get_or tys i ty → seen ≡ get_or tys i seen
seen_at tys i ty seen same is = subst (λ t. t ≡ get_or tys i t) (sym same) is

pub part_smaller : (i : ℕ) (tys : List Ty) (ty : Ty) → i < length tys → ty ≡ get_or tys i ty → size-Ty ty ≤ most size-Ty tys
part_smaller i tys ty within is = slice_get-most size-Ty tys i ty (slice_get_read tys (length tys) i ty refl within is)

-- a field's number is less than the words of the heap
pub field_small : (heap : HeapView) → IsHeap heap → (place i field : ℕ) → field_of (object_at (objects_in heap) place) i ≡ Some field → i < length heap.words
field_small heap h place i field is =
    let object = some_object (object_at (objects_in heap) place) i field is in
    let there = field_within heap (objects_in heap) h.held place object.0 object.1 i (slice_get_within object.0.1 i field object.2) in
    omega (arith, there)

-- that of the object that is found
own_field : (o : Option Object) (object : Object) (i field : ℕ) → o ≡ Some object → field_of o i ≡ Some field → slice_get object.1 i ≡ Some field
own_field o object i field found is = sym (ap (λ o. field_of o i) found) ∙ is

module _ (objects : List Object) (f : Ty → Flattening) (tys : List Ty) (place at : ℕ) (old : List ℕ) (room : HaveRoomAt (parts_at objects
    (map f tys) place) at (length old)) where
  parts_object : (object : Object) × (object_at objects place ≡ Some object) × (joined_words (map f tys) object.1 ≡ Some room.words)
  parts_object = object_there (object_at objects place) (λ object. joined_words (map f tys) object.1) room.words room.is

  same_object : (object : Object) → object_at objects place ≡ Some object → joined_words (map f tys) object.1 ≡ Some room.words
  same_object object found =
      let there = parts_object in
      let same : there.0 ≡ object = let e : ◌≡◌ {A = Option Object} (Some there.0) (Some object) = sym there.1 ∙ found in cc in
      subst (λ (o : Object). joined_words (map f tys) o.1 ≡ Some room.words) same there.2

  pub parts_field : (i : ℕ) → i < length tys → (field : ℕ) × (field_of (object_at objects place) i ≡ Some field)
  parts_field i less =
      let there = parts_object in
      let field = part_field f tys there.0.1 room.words i there.2 less in
      (field.0, ap (λ o. field_of o i) there.1 ∙ field.1)

  module _ (i : ℕ) (less : i < length tys) (ty : Ty) (is : ty ≡ get_or tys i ty) (word : ℕ) (read : field_of (object_at objects place) i ≡ Some word)
      (into : List ℕ) (end : ℕ)
      (so_far : (object : Object) → object_at objects place ≡ Some object
      → AreWritten (joined_words (map f (take i tys)) (take i object.1)) old at into end) where
    piece : (object : Object) → object_at objects place ≡ Some object
        → Piece (joined_words (map f (take i tys)) (take i object.1)) (f ty word) (joined_words (map f (take (suc i) tys)) (take (suc i) object.1)) room.words
    piece object found =
        subst (λ t. Piece (joined_words (map f (take i tys)) (take i object.1)) (f t word) (joined_words (map f (take (suc i) tys)) (take
        (suc i) object.1)) room.words) (sym is)
        (part_piece f tys object.1 room.words i ty word (same_object object found) less (own_field (object_at objects place) object i word found read))

    pub part_room : HaveRoomAt (f ty word) end (length into)
    part_room =
        let there = parts_object in
        piece_room _ _ _ room.words (piece there.0 there.1) old into at end (so_far there.0 there.1) room.fits

    pub part_next : (into' : List ℕ) (end' : ℕ) → AreWritten (f ty word) into end into' end'
        → (object : Object) → object_at objects place ≡ Some object → AreWritten (joined_words (map f (take (i + 1) tys)) (take
        (i + 1) object.1)) old at into' end'
    part_next into' end' written object found =
        let step : suc i ≡ i + 1 = omega arith in
        subst (λ n. AreWritten (joined_words (map f (take n tys)) (take n object.1)) old at into' end') step
        (piece_written _ _ _ room.words (piece object found) old into at end (so_far object found) into' end' written)

  pub parts_done : (i : ℕ) (into : List ℕ) (end : ℕ) → length tys ≤ i
      → ((object : Object) → object_at objects place ≡ Some object → AreWritten (joined_words (map f (take i tys)) (take i object.1)) old at into end)
      → AreWritten (parts_at objects (map f tys) place) old at into end
  parts_done i into end done so_far words is =
      let there = object_there (object_at objects place) (λ object. joined_words (map f tys) object.1) words is in
      so_far there.0 there.1 words (parts_whole f tys there.0.1 words i done there.2)

module _ (objects : List Object) (f : Flattening) (place at : ℕ) (old : List ℕ) (room : HaveRoomAt (items_at objects f place) at (length old)) where
  pub items_object : (object : Object) × (object_at objects place ≡ Some object) × (item_words f object.1 ≡ Some room.words)
  items_object = object_there (object_at objects place) (λ object. item_words f object.1) room.words room.is

  same_items : (object : Object) → object_at objects place ≡ Some object → item_words f object.1 ≡ Some room.words
  same_items object found =
      let there = items_object in
      let same : there.0 ≡ object = let e : ◌≡◌ {A = Option Object} (Some there.0) (Some object) = sym there.1 ∙ found in cc in
      subst (λ (o : Object). item_words f o.1 ≡ Some room.words) same there.2

  pub items_field : (i : ℕ) → i < length items_object.0.1 → (field : ℕ) × (field_of (object_at objects place) i ≡ Some field)
  items_field i less =
      let there = items_object in
      (get_or there.0.1 i 0, ap (λ o. field_of o i) there.1 ∙ slice_get-get_or there.0.1 i 0 less)

  module _ (i : ℕ) (word : ℕ) (read : field_of (object_at objects place) i ≡ Some word) (into : List ℕ) (end : ℕ)
      (so_far : (object : Object) → object_at objects place ≡ Some object → AreWritten (item_words f (take i object.1)) old at into end) where
    own_piece : (object : Object) → object_at objects place ≡ Some object
        → Piece (item_words f (take i object.1)) (f word) (item_words f (take (suc i) object.1)) room.words
    own_piece object found = item_piece f object.1 room.words i word (same_items object found) (own_field (object_at objects place) object i word found read)

    pub item_room : HaveRoomAt (f word) end (length into)
    item_room =
        let there = items_object in
        piece_room _ _ _ room.words (own_piece there.0 there.1) old into at end (so_far there.0 there.1) room.fits

    pub item_next : (into' : List ℕ) (end' : ℕ) → AreWritten (f word) into end into' end'
        → (object : Object) → object_at objects place ≡ Some object → AreWritten (item_words f (take (i + 1) object.1)) old at into' end'
    item_next into' end' written object found =
        let step : suc i ≡ i + 1 = omega arith in
        subst (λ n. AreWritten (item_words f (take n object.1)) old at into' end') step
        (piece_written _ _ _ room.words (own_piece object found) old into at end (so_far object found) into' end' written)

  pub items_done : (i : ℕ) (into : List ℕ) (end : ℕ) → ((object : Object) → object_at objects place ≡ Some object → length object.1 ≤ i)
      → ((object : Object) → object_at objects place ≡ Some object → AreWritten (item_words f (take i object.1)) old at into end)
      → AreWritten (items_at objects f place) old at into end
  items_done i into end done so_far words is =
      let there = object_there (object_at objects place) (λ object. item_words f object.1) words is in
      so_far there.0 there.1 words (ap (item_words f) (take_all i there.0.1 (done there.0 there.1)) ∙ there.2)

-- a constructor: the tag, and then its fields

some_more : (tag : ℕ) (o : Option (List ℕ)) (ws : List ℕ) → option_map (λ fields. tag ∷ fields) o ≡ Some ws
    → (fields : List ℕ) × (o ≡ Some fields) × (ws ≡ tag ∷ fields)
some_more tag None ws is = cc
some_more tag (Some fields) ws is = (
  fields,
  refl,
  let e : ◌≡◌ {A = Option (List ℕ)} (Some (tag ∷ fields))
      (Some ws) = is in let same : tag ∷ fields ≡ ws = cc in sym same,
)

module _ (objects : List Object) (f : Ty → Flattening) (sum : SumDef) (place : ℕ) (ws : List ℕ) (is : con_at objects f sum place ≡ Some ws) where
  abbrev con_of : Object → Option (List ℕ)
  con_of object = option_map (λ fields. object.0 ∷ fields) (joined_words (map f (fields_at sum object.0)) object.1)

  pub con_object : (object : Object) × (object_at objects place ≡ Some object) × (con_of object ≡ Some ws)
  con_object = object_there (object_at objects place) con_of ws is

  pub con_tag : (tag : ℕ) × (tag_of (object_at objects place) ≡ Some tag)
  con_tag = let there = con_object in (there.0.0, ap tag_of there.1)

  -- by the tag that was read
  pub con_parts : (tag : ℕ) → tag_of (object_at objects place) ≡ Some tag
      → (fields : List ℕ) × (parts_at objects (map f (fields_at sum tag)) place ≡ Some fields) × (ws ≡ tag ∷ fields)
  con_parts tag read =
      let there = con_object in
      let same : there.0.0 ≡ tag = let e : ◌≡◌ {A = Option ℕ} (Some there.0.0) (Some tag) = sym (ap tag_of there.1) ∙ read in cc in
      let more = some_more there.0.0 (joined_words (map f (fields_at sum there.0.0)) there.0.1) ws there.2 in (
        more.0,
        ap (λ o. option_and_then (λ (object : Object). joined_words (map f (fields_at sum tag)) object.1) o) there.1
            ∙ ap (λ t. joined_words (map f (fields_at sum t)) there.0.1) (sym same) ∙ more.1,
        more.2 ∙ ap (λ t. t ∷ more.0) same,
      )

pub no_parts : (objects : List Object) (place : ℕ) (fields : List ℕ) → parts_at objects [] place ≡ Some fields → fields ≡ []
no_parts objects place fields is =
    let there = object_there (object_at objects place) (λ object. Some []) fields is in
    let e : ◌≡◌ {A = Option (List ℕ)} (Some []) (Some fields) = there.2 in let same : ◌≡◌ {A = List ℕ} [] fields = cc in sym same

pub con_fields : (sum : SumDef) (tag : ℕ) (con : ConDef) → slice_get sum.cons tag ≡ Some con → fields_at sum tag ≡ con.fields
con_fields sum tag con found = ap fields_of found

pub no_fields : (sum : SumDef) (tag : ℕ) → slice_get sum.cons tag ≡ None → fields_at sum tag ≡ []
no_fields sum tag none = ap fields_of none

-- by one level of a type that has parts

pub flat_tuple : (objects : List Object) (named : ℕ → Flattening) (tys : List Ty) (word : ℕ)
    → flat_at_with objects named (shape.Tuple tys) word ≡ parts_at objects (map (flat_at_with objects named) tys) word
flat_tuple objects named tys word = form objects named (shape.Tuple tys) (Ty-F.Tuple tys) word (shape.rolls-Tuple tys)

pub flat_vector : (objects : List Object) (named : ℕ → Flattening) (count : ℕ) (item : Ty) (word : ℕ)
    → flat_at_with objects named (shape.Vector count item) word ≡ items_at objects (flat_at_with objects named item) word
flat_vector objects named count item word = form objects named (shape.Vector count item) (Ty-F.Vector count item) word (shape.rolls-Vector count item)

-- by one that has no parts

pub flat_bool : (objects : List Object) (named : ℕ → Flattening) (word : ℕ) → flat_at_with objects named shape.Bool word ≡ Some (word ∷ [])
flat_bool objects named word = form objects named shape.Bool Ty-F.Bool word shape.rolls-Bool

pub flat_char : (objects : List Object) (named : ℕ → Flattening) (word : ℕ) → flat_at_with objects named shape.Char word ≡ Some (word ∷ [])
flat_char objects named word = form objects named shape.Char Ty-F.Char word shape.rolls-Char

pub flat_int : (objects : List Object) (named : ℕ → Flattening) (bits word : ℕ) → flat_at_with objects named (shape.Int bits) word ≡ Some (word ∷ [])
flat_int objects named bits word = form objects named (shape.Int bits) (Ty-F.Int bits) word (shape.rolls-Int bits)

pub flat_nat : (objects : List Object) (named : ℕ → Flattening) (bits word : ℕ) → flat_at_with objects named (shape.Nat bits) word ≡ Some (word ∷ [])
flat_nat objects named bits word = form objects named (shape.Nat bits) (Ty-F.Nat bits) word (shape.rolls-Nat bits)
