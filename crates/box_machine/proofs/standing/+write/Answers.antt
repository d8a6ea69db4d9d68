use Rattle.std.proofs.Common.{◌≡◌, ℕ, ◌+◌, ◌<◌, ◌≤◌, List, [], ◌∷◌, map, length, Some, slice_get, ap, sym, ◌∙◌, subst, arith, rules}
use Rattle.std.proofs.Math.Facts.{Fits-of_lt}
use denote.Param.Weighed.{most}
use Rattle.hume_base.specs.declared.types.Ty.{Ty, size-Ty}
use Rattle.hume_base.specs.Values.{fields_at}
use Rattle.hume_model.proofs.WordReading.{rank, sum_size, rank-falls}
use Rattle.hume_model.proofs.Ranks.{slice_get-most}
use Rattle.hume_model.proofs.WordReading.{con_size}
use Rattle.box_code.specs.FlatObjects.{Flattening, flat_at_with, named_at}
use Rattle.box_machine.specs.inner.Stepping.{objects_in}
use Rattle.box_machine.specs.inner.Written.{IsWritten, con_at, flat_below, items_at, parts_at}
use Rattle.box_machine.proofs.Writing.{con_room, named_none, named_some, named_there, padded_written, written_more, zeros_room}
use Rattle.box_machine.proofs.WritingParts.{con_fields, con_parts, con_tag, field_small, flat_tuple, flat_vector, item_next, item_room, items_done, items_field, items_object, part_next, part_room, part_smaller, parts_done, parts_field, seen_at}
use Rattle.box_machine.proofs.standing.+write.Goals as goal

pub write_constructor-tag_at-tag-requires-clause-there :
    goal.write_constructor-tag_at-tag-requires-clause-there
write_constructor-tag_at-tag-requires-clause-there t c =
    let objects = objects_in c.args.heap.now in
    con_tag objects (flat_below c.args.types.now c.args.bound objects) c.args.sum.now c.args.place c.requires.room.words c.requires.room.is

pub write_constructor-write_parts-requires : goal.write_constructor-write_parts-requires
write_constructor-write_parts-requires t c =
    let objects = objects_in c.args.heap.now in
    let f : Ty → Flattening = flat_below c.args.types.now c.args.bound objects in
    let sum = c.args.sum.now in
    let found : slice_get sum.cons c.tag_at-tag.result ≡ Some c.in-Some.con.now = search rules in
    let parts = con_parts objects f sum c.args.place c.requires.room.words c.requires.room.is c.tag_at-tag.result c.tag_at-tag.ensures in
    let tys : fields_at sum c.tag_at-tag.result ≡ c.as_slice.result.now = con_fields sum c.tag_at-tag.result c.in-Some.con.now found ∙ sym c.as_slice.ensures in
    let small : con_size c.in-Some.con.now ≤ sum_size sum = slice_get-most con_size sum.cons c.tag_at-tag.result c.in-Some.con.now found in
    let long : length c.requires.room.words ≡ 1 + length parts.0 = ap (λ (ws : List ℕ). length ws) parts.2 ∙ omega arith in
    let same : most size-Ty c.as_slice.result.now ≡ con_size c.in-Some.con.now = ap (λ (ts : List Ty). most size-Ty ts) c.as_slice.ensures in (
      omega (arith, small, same),
      (
        c.requires.sizes,
        (
          c.requires.held,
          record {
            words = parts.0;
            is = ap (λ (ts : List Ty). parts_at objects (map f ts) c.args.place) (sym tys)
                ∙ parts.1;
            fits = omega (arith, long, c.requires.room.fits, c.write_word-fields.ensures.place, c.write_word-fields.ensures.room);
          },
        ),
      ),
    )

pub write_constructor-returns-in-Some : goal.write_constructor-returns-in-Some
write_constructor-returns-in-Some t c = λ words is.
    let objects = objects_in c.args.heap.now in
    let f : Ty → Flattening = flat_below c.args.types.now c.args.bound objects in
    let sum = c.args.sum.now in
    let found : slice_get sum.cons c.tag_at-tag.result ≡ Some c.in-Some.con.now = search rules in
    let tys : fields_at sum c.tag_at-tag.result ≡ c.as_slice.result.now = con_fields sum c.tag_at-tag.result c.in-Some.con.now found ∙ sym c.as_slice.ensures in
    let parts = con_parts objects f sum c.args.place words is c.tag_at-tag.result c.tag_at-tag.ensures in
    subst (λ (ws : List ℕ). IsWritten c.args.into.now c.args.at ws c.write_parts.new.into c.write_parts.result) (sym parts.2)
    (written_more _ _ _ _ _ _ (c.tag_at-tag.result ∷ []) parts.0
    (subst (λ (w : ℕ). IsWritten c.args.into.now c.args.at
    (w ∷ []) c.write_word-fields.new.into c.write_word-fields.result) c.from.ensures c.write_word-fields.ensures)
    (c.write_parts.ensures parts.0 (ap (λ (ts : List Ty). parts_at objects (map f ts) c.args.place) (sym tys) ∙ parts.1)))

pub write_data-write_constructor-end-requires : goal.write_data-write_constructor-end-requires
write_data-write_constructor-end-requires t c =
    let types = c.args.types.now in
    let objects = objects_in c.args.heap.now in
    let found : slice_get types.sums c.args.number ≡ Some c.in-Some.sum.now = search rules in
    let below = named_there types objects c.args.bound c.args.number c.args.place c.requires.room.words c.requires.room.is in
    let falls : rank types c.args.number + sum_size c.in-Some.sum.now + 1 < rank types c.args.bound = rank-falls types c.args.bound c.args.number
    c.in-Some.sum.now found below in
    let whole = named_some types objects c.args.bound c.args.number c.args.place c.in-Some.sum.now c.requires.room.words c.requires.sizes found
    c.requires.room.is in (
      omega (arith, falls),
      (
        c.requires.sizes,
        (
          c.requires.held,
          con_room c.in-Some.sum.now.words (con_at objects
              (flat_below types c.args.number objects) c.in-Some.sum.now c.args.place) c.requires.room.words whole c.args.into.now c.args.at
              c.requires.room.fits,
        ),
      ),
    )

pub write_data-write_zeros-requires : goal.write_data-write_zeros-requires
write_data-write_zeros-requires t c =
    let types = c.args.types.now in
    let objects = objects_in c.args.heap.now in
    let found : slice_get types.sums c.args.number ≡ Some c.in-Some.sum.now = search rules in
    let whole = named_some types objects c.args.bound c.args.number c.args.place c.in-Some.sum.now c.requires.room.words c.requires.sizes found
    c.requires.room.is in
    zeros_room c.in-Some.sum.now.words (con_at objects
    (flat_below types c.args.number objects) c.in-Some.sum.now c.args.place) c.requires.room.words whole c.args.into.now c.args.at
    c.write_constructor-end.new.into c.write_constructor-end.result c.write_constructor-end.ensures c.requires.room.fits

pub write_data-returns-in-None : goal.write_data-returns-in-None
write_data-returns-in-None t c = λ words is.
    absurd (named_none c.args.types.now (objects_in c.args.heap.now) c.args.bound c.args.number c.args.place words (search rules) is)

pub write_data-returns-in-Some : goal.write_data-returns-in-Some
write_data-returns-in-Some t c = λ words is.
    let types = c.args.types.now in
    let objects = objects_in c.args.heap.now in
    let found : slice_get types.sums c.args.number ≡ Some c.in-Some.sum.now = search rules in
    let whole = named_some types objects c.args.bound c.args.number c.args.place c.in-Some.sum.now words c.requires.sizes found is in
    padded_written c.in-Some.sum.now.words (con_at objects
    (flat_below types c.args.number objects) c.in-Some.sum.now c.args.place) words whole c.args.into.now c.args.at
    c.write_constructor-end.new.into c.write_constructor-end.result c.write_constructor-end.ensures c.write_zeros.new.into c.write_zeros.result
    c.write_zeros.ensures

pub write_items-field_at-word-requires-clause-there :
    goal.write_items-field_at-word-requires-clause-there
write_items-field_at-word-requires-clause-there t c =
    let objects = objects_in c.args.heap.now in
    let f : Flattening = flat_below c.args.types.now c.args.bound objects c.args.item.now in
    let there = items_object objects f c.args.place c.args.at c.args.into.now c.requires.room in
    let count = c.count-i-end.ensures objects there.0 c.requires.held.held there.1 in
    items_field objects f c.args.place c.args.at c.args.into.now c.requires.room c.loop-i.i (omega (arith, count, c.loop-i-test.true))

pub write_items-write_value-end-requires : goal.write_items-write_value-end-requires
write_items-write_value-end-requires t c =
    let objects = objects_in c.args.heap.now in
    let f : Flattening = flat_below c.args.types.now c.args.bound objects c.args.item.now in (
      omega arith,
      (
        c.requires.sizes,
        (
          c.requires.held,
          item_room objects f c.args.place c.args.at c.args.into.now c.requires.room c.loop-i.i c.field_at-word.result c.field_at-word.ensures c.loop-i.into
              c.loop-i.end c.loop-i.invariant,
        ),
      ),
    )

pub write_items-loop-i-preserved : goal.write_items-loop-i-preserved
write_items-loop-i-preserved t c =
    let objects = objects_in c.args.heap.now in
    let f : Flattening = flat_below c.args.types.now c.args.bound objects c.args.item.now in
    item_next objects f c.args.place c.args.at c.args.into.now c.requires.room c.loop-i.i c.field_at-word.result c.field_at-word.ensures c.loop-i.into
    c.loop-i.end c.loop-i.invariant
    c.write_value-end.new.into c.write_value-end.result c.write_value-end.ensures

pub write_items-returns : goal.write_items-returns
write_items-returns t c =
    let objects = objects_in c.args.heap.now in
    let f : Flattening = flat_below c.args.types.now c.args.bound objects c.args.item.now in
    items_done objects f c.args.place c.args.at c.args.into.now c.requires.room c.loop-i.i c.loop-i.into c.loop-i.end
    (λ object found. let count = c.count-i-end.ensures objects object c.requires.held.held found in omega (arith, count, c.loop-i-test.false))
    c.loop-i.invariant

pub write_parts-overflow_cast-i : goal.write_parts-overflow_cast-i
write_parts-overflow_cast-i t c =
    let objects = objects_in c.args.heap.now in
    let f : Ty → Flattening = flat_below c.args.types.now c.args.bound objects in
    let field = parts_field objects f c.args.tys.now c.args.place c.args.at c.args.into.now c.requires.room c.loop-i.i c.loop-i-test.true in
    let small = field_small c.args.heap.now c.requires.held c.args.place c.loop-i.i field.0 field.1 in
    Fits-of_lt (omega (arith, small, c.keeps_room.ensures))

pub write_parts-field_at-word-requires-clause-there :
    goal.write_parts-field_at-word-requires-clause-there
write_parts-field_at-word-requires-clause-there t c =
    let objects = objects_in c.args.heap.now in
    let f : Ty → Flattening = flat_below c.args.types.now c.args.bound objects in
    parts_field objects f c.args.tys.now c.args.place c.args.at c.args.into.now c.requires.room c.loop-i.i c.loop-i-test.true

pub write_parts-write_value-end-requires : goal.write_parts-write_value-end-requires
write_parts-write_value-end-requires t c =
    let objects = objects_in c.args.heap.now in
    let f : Ty → Flattening = flat_below c.args.types.now c.args.bound objects in
    let here = seen_at c.args.tys.now c.loop-i.i c.index-tys-i.result c.deref.result.now c.deref.ensures c.index-tys-i.is in
    let smaller = part_smaller c.loop-i.i c.args.tys.now c.deref.result.now c.loop-i-test.true here in (
      omega (arith, smaller),
      (
        c.requires.sizes,
        (
          c.requires.held,
          part_room objects f c.args.tys.now c.args.place c.args.at c.args.into.now c.requires.room c.loop-i.i c.loop-i-test.true c.deref.result.now
              here
              c.field_at-word.result c.field_at-word.ensures c.loop-i.into c.loop-i.end c.loop-i.invariant,
        ),
      ),
    )

pub write_parts-loop-i-preserved : goal.write_parts-loop-i-preserved
write_parts-loop-i-preserved t c =
    let objects = objects_in c.args.heap.now in
    let f : Ty → Flattening = flat_below c.args.types.now c.args.bound objects in
    let here = seen_at c.args.tys.now c.loop-i.i c.index-tys-i.result c.deref.result.now c.deref.ensures c.index-tys-i.is in
    part_next objects f c.args.tys.now c.args.place c.args.at c.args.into.now c.requires.room c.loop-i.i c.loop-i-test.true c.deref.result.now
    here
    c.field_at-word.result c.field_at-word.ensures c.loop-i.into c.loop-i.end c.loop-i.invariant
    c.write_value-end.new.into c.write_value-end.result c.write_value-end.ensures

pub write_parts-returns : goal.write_parts-returns
write_parts-returns t c =
    let objects = objects_in c.args.heap.now in
    let f : Ty → Flattening = flat_below c.args.types.now c.args.bound objects in
    parts_done objects f c.args.tys.now c.args.place c.args.at c.args.into.now c.requires.room c.loop-i.i c.loop-i.into c.loop-i.end (omega
    (arith, c.loop-i-test.false)) c.loop-i.invariant

pub write_value-returns-in-Tuple : goal.write_value-returns-in-Tuple
write_value-returns-in-Tuple t c = λ words is.
    let objects = objects_in c.args.heap.now in
    let named = named_at c.args.types.now objects c.args.bound in
    c.write_parts.ensures words (ap (λ (tys : List Ty). parts_at objects (map (flat_at_with objects named) tys) c.args.word) c.as_slice.ensures
    ∙ sym (ap (λ (ty : Ty). flat_at_with objects named ty c.args.word) c.in-Tuple.is ∙ flat_tuple objects named c.in-Tuple.tys c.args.word) ∙ is)

pub write_value-returns-in-Vector : goal.write_value-returns-in-Vector
write_value-returns-in-Vector t c = λ words is.
    let objects = objects_in c.args.heap.now in
    let named = named_at c.args.types.now objects c.args.bound in
    c.write_items.ensures words (ap (λ (ty : Ty). items_at objects (flat_at_with objects named ty) c.args.word) c.deref.ensures
    ∙ sym (ap (λ (ty : Ty). flat_at_with objects named ty c.args.word) c.in-Vector.is
    ∙ flat_vector objects named c.in-Vector.field-0 c.in-Vector.item c.args.word) ∙ is)
