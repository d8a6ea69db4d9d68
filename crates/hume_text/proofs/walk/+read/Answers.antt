use Rattle.std.proofs.Common.{◌≡◌, ◌+◌, ◌-◌, ◌<◌, ◌∙◌, ◌∷◌, map, drop, replicate, take, ap, sym, arith, Some, None, MatchOption, subst, slice_get, length}
use Rattle.hume_base.specs.declared.types.Ty.{Ty, out-Ty}
use Rattle.hume_text.specs.inner.Printers.{is_compound}
use Rattle.hume_text.specs.inner.Readers.{Reader, Reading, read_in, read_with, read_named, is_open, is_close, is_open_vector, is_close_vector, read_several}
use Rattle.hume_text.proofs.Printing.{drop-seen}
use Rattle.hume_text.proofs.Ranks.{rank, sum_size, rank-falls}
use Rattle.hume_text.proofs.Reading.{reader_of, several-next, several-none, fields-next, fields-none, items-left, in-none, in-open, in-some, field-read, front-vector, range-same}
use Rattle.hume_text.proofs.walk.+read.Goals as goal

pub read_tuple-loop-ty-preserved : goal.read_tuple-loop-ty-preserved
read_tuple-loop-ty-preserved t c =
    let room = length c.args.into.now in
    let reader = reader_of c.args.types.now c.args.bound room in
    let here : map reader (drop c.loop-ty.ty-index c.args.tys.now) ≡ reader c.deref.result.now ∷ map reader (drop (c.loop-ty.ty-index + 1) c.args.tys.now) =
    ap (map reader) (drop-seen c.args.tys.now c.loop-ty.ty-index c.ty-item.result c.deref.result.now (omega (arith, c.loop-ty-test.true)) c.deref.ensures c.ty-item.is) in
    record {
      same = c.read_part.ensures.room ∙ c.loop-ty.invariant.same;
      within = omega (arith, c.in-Some-read_part.ensures.within, c.loop-ty.invariant.same);
      onward = omega (arith, c.in-Some-read_part.ensures.onward, c.loop-ty.invariant.onward);
      read = several-next c.args.types.now c.args.bound room _ _ c.deref.result.now _ _ _ _ _ _ _ c.loop-ty.invariant.same here c.in-Some-read_part.ensures.read c.loop-ty.invariant.read;
    }

pub read_vector-loop-place-preserved : goal.read_vector-loop-place-preserved
read_vector-loop-place-preserved t c =
    let room = length c.args.into.now in
    let reader = reader_of c.args.types.now c.args.bound room c.args.item.now in
    record {
      same = c.read_part.ensures.room ∙ c.loop-place.invariant.same;
      within = omega (arith, c.in-Some-read_part.ensures.within, c.loop-place.invariant.same);
      onward = omega (arith, c.in-Some-read_part.ensures.onward, c.loop-place.invariant.onward);
      read = several-next c.args.types.now c.args.bound room _ _ c.args.item.now _ _ _ _ _ _ _ c.loop-place.invariant.same
          (items-left reader c.args.count c.loop-place._place (omega (arith, c.loop-place-test.true))) c.in-Some-read_part.ensures.read c.loop-place.invariant.read;
    }

pub read_fields-loop-ty-preserved : goal.read_fields-loop-ty-preserved
read_fields-loop-ty-preserved t c =
    let room = length c.args.into.now in
    record {
      same = c.read_field.ensures.room ∙ c.loop-ty.invariant.same;
      within = omega (arith, c.in-Some.ensures.within, c.loop-ty.invariant.same);
      onward = omega (arith, c.in-Some.ensures.onward, c.loop-ty.invariant.onward);
      read = fields-next c.args.types.now c.args.bound room _ c.deref.result.now _ _ _ _ _ _ _ c.loop-ty.invariant.same
          (drop-seen c.args.tys.now c.loop-ty.ty-index c.ty-item.result c.deref.result.now (omega (arith, c.loop-ty-test.true)) c.deref.ensures c.ty-item.is) c.in-Some.ensures.read c.loop-ty.invariant.read;
    }

pub read_data-read_constructor-requires : goal.read_data-read_constructor-requires
read_data-read_constructor-requires t c =
    let found : slice_get c.args.types.now.sums c.args.number ≡ Some c.in-Some.sum.now = c.in-Some.ensures in
    let falls : rank c.args.types.now c.args.number + sum_size c.in-Some.sum.now + 1 < rank c.args.types.now c.args.bound =
    rank-falls _ _ _ _ found (omega (arith, c.if-number-bound.false)) in
    (omega (arith, falls), c.requires)

pub read_fields-returns-in-None-clause-read : goal.read_fields-returns-in-None-clause-read
read_fields-returns-in-None-clause-read t c =
    fields-none c.args.types.now c.args.bound (length c.args.into.now) (length c.loop-ty.into) c.deref.result.now (drop c.loop-ty.ty-index c.args.tys.now) _
    (take c.loop-ty.end c.loop-ty.into) c.loop-ty.rest.now _ c.loop-ty.invariant.same
    (drop-seen c.args.tys.now c.loop-ty.ty-index c.ty-item.result c.deref.result.now (omega (arith, c.loop-ty-test.true)) c.deref.ensures c.ty-item.is) c.in-None.ensures.read c.loop-ty.invariant.read

pub read_tuple-returns-in-None-clause-read : goal.read_tuple-returns-in-None-clause-read
read_tuple-returns-in-None-clause-read t c =
    let reader : Ty → Reader = reader_of c.args.types.now c.args.bound (length c.args.into.now) in
    let here : map reader (drop c.loop-ty.ty-index c.args.tys.now) ≡ reader c.deref.result.now ∷ map reader (drop (c.loop-ty.ty-index + 1) c.args.tys.now) =
    ap (map reader) (drop-seen c.args.tys.now c.loop-ty.ty-index c.ty-item.result c.deref.result.now (omega (arith, c.loop-ty-test.true)) c.deref.ensures c.ty-item.is) in
    in-none is_open is_close (map reader c.args.tys.now) (take c.args.at c.args.into.now) c.args.line.now c.in-Some.inner.now c.in-Some.ensures
    (several-none c.args.types.now c.args.bound (length c.args.into.now) (length c.loop-ty.into) c.loop-ty.first c.deref.result.now _ _
    (take c.loop-ty.end c.loop-ty.into) c.loop-ty.rest.now _ c.loop-ty.invariant.same here c.in-None.ensures.read c.loop-ty.invariant.read)

pub read_vector-returns-in-None-clause-read : goal.read_vector-returns-in-None-clause-read
read_vector-returns-in-None-clause-read t c =
    let reader : Reader = reader_of c.args.types.now c.args.bound (length c.args.into.now) c.args.item.now in
    in-none is_open_vector is_close_vector (replicate {A = Reader} c.args.count reader) (take c.args.at c.args.into.now) c.args.line.now c.in-Some.inner.now c.in-Some.ensures
    (several-none c.args.types.now c.args.bound (length c.args.into.now) (length c.loop-place.into) c.loop-place.first c.args.item.now _ _
    (take c.loop-place.end c.loop-place.into) c.loop-place.rest.now _ c.loop-place.invariant.same
    (items-left reader c.args.count c.loop-place._place (omega (arith, c.loop-place-test.true))) c.in-None.ensures.read c.loop-place.invariant.read)

pub read_vector-returns-in-None-take_close_vector-clause-read : goal.read_vector-returns-in-None-take_close_vector-clause-read
read_vector-returns-in-None-take_close_vector-clause-read t c =
    let reader : Reader = reader_of c.args.types.now c.args.bound (length c.args.into.now) c.args.item.now in
    let none : c.args.count - c.loop-place._place ≡ 0 = omega (arith, c.loop-place-test.false) in
    in-open is_open_vector is_close_vector (replicate {A = Reader} c.args.count reader) (take c.args.at c.args.into.now) c.args.line.now c.in-Some.inner.now
    (take c.loop-place.end c.loop-place.into) c.loop-place.rest.now c.in-Some.ensures
    (ap (λ n. read_several c.loop-place.first (replicate {A = Reader} n reader) (take c.loop-place.end c.loop-place.into) c.loop-place.rest.now) (sym none)
    ∙ c.loop-place.invariant.read) c.in-None-take_close_vector.ensures

pub read_vector-returns-in-Some-take_close_vector-clause-read : goal.read_vector-returns-in-Some-take_close_vector-clause-read
read_vector-returns-in-Some-take_close_vector-clause-read t c =
    let reader : Reader = reader_of c.args.types.now c.args.bound (length c.args.into.now) c.args.item.now in
    let none : c.args.count - c.loop-place._place ≡ 0 = omega (arith, c.loop-place-test.false) in
    in-some is_open_vector is_close_vector (replicate {A = Reader} c.args.count reader) (take c.args.at c.args.into.now) c.args.line.now c.in-Some.inner.now
    (take c.loop-place.end c.loop-place.into) c.loop-place.rest.now c.in-Some-take_close_vector.later.now c.in-Some.ensures
    (ap (λ n. read_several c.loop-place.first (replicate {A = Reader} n reader) (take c.loop-place.end c.loop-place.into) c.loop-place.rest.now) (sym none)
    ∙ c.loop-place.invariant.read) c.in-Some-take_close_vector.ensures

pub read_front-returns-in-Vector-clause-read : goal.read_front-returns-in-Vector-clause-read
read_front-returns-in-Vector-clause-read t c =
    let room = length c.args.into.now in
    let named = read_named c.args.types.now room c.args.bound in
    let words = take c.args.at c.args.into.now in
    let same : read_with room named c.args.ty.now words c.args.line.now
    ≡ read_in is_open_vector is_close_vector (replicate {A = Reader} c.in-Vector.count (read_with room named c.deref.result.now)) words c.args.line.now =
    ap (λ ty. read_with room named ty words c.args.line.now) c.in-Vector.is ∙ front-vector room named c.in-Vector.count c.in-Vector.item words c.args.line.now
    ∙ ap (λ item. read_in is_open_vector is_close_vector (replicate {A = Reader} c.in-Vector.count (read_with room named item)) words c.args.line.now) (sym c.deref.ensures) in
    subst (λ (r : Reading). MatchOption c.read_vector.result (r ≡ None) (λ read. r ≡ Some (take read.0 c.read_vector.new.into, read.1.now))) (sym same) c.read_vector.ensures.read

pub read_field-returns-in-None-closed_field-clause-read : goal.read_field-returns-in-None-closed_field-clause-read
read_field-returns-in-None-closed_field-clause-read t c =
    field-read c.args.types.now c.args.ty.now (reader_of c.args.types.now c.args.bound (length c.args.into.now) c.args.ty.now) (take c.args.at c.args.into.now) c.args.line.now
    c.field_start-opened.result.0 c.field_start-opened.result.1.now (take c.in-Some.end c.read_front.new.into) c.in-Some.rest.now c.is_compound-compound.result None
    c.field_start-opened.ensures c.in-Some.ensures.read
    (c.is_compound-compound.ensures ∙ ap (is_compound c.args.types.now (out-Ty c.args.ty.now)) (sym (range-same c.args.at c.in-Some.end c.args.into.now c.read_front.new.into c.requires c.in-Some.ensures.onward)))
    c.in-None-closed_field.ensures

pub read_field-returns-in-Some-closed_field-clause-read : goal.read_field-returns-in-Some-closed_field-clause-read
read_field-returns-in-Some-closed_field-clause-read t c =
    field-read c.args.types.now c.args.ty.now (reader_of c.args.types.now c.args.bound (length c.args.into.now) c.args.ty.now) (take c.args.at c.args.into.now) c.args.line.now
    c.field_start-opened.result.0 c.field_start-opened.result.1.now (take c.in-Some.end c.read_front.new.into) c.in-Some.rest.now c.is_compound-compound.result (Some c.in-Some-closed_field.later.now)
    c.field_start-opened.ensures c.in-Some.ensures.read
    (c.is_compound-compound.ensures ∙ ap (is_compound c.args.types.now (out-Ty c.args.ty.now)) (sym (range-same c.args.at c.in-Some.end c.args.into.now c.read_front.new.into c.requires c.in-Some.ensures.onward)))
    c.in-Some-closed_field.ensures
