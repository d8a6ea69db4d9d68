use Rattle.std.proofs.Common.{◌≡◌, ◌∙◌, ◌+◌, ◌<◌, Some, slice_get, ap, arith, rules, replicate}
use Rattle.hume_model.specs.Readers.{Reader, read_with, read_named, read_several, made_of}
use Rattle.hume_base.specs.declared.types.Value.{Vector}
use Rattle.hume_model.proofs.WordReading.{rank, sum_size, rank-falls, read-vector, next_item}
use Rattle.hume_model.proofs.reading.+read.Goals as goal

pub read_data-read_constructor-requires : goal.read_data-read_constructor-requires
read_data-read_constructor-requires t c =
    let found : slice_get c.args.types.now.sums c.args.number ≡ Some c.in-Some.sum.now = search rules in
    let falls : rank c.args.types.now c.args.number + sum_size c.in-Some.sum.now + 1 < rank c.args.types.now c.args.bound = rank-falls _ _ _ _ found (omega arith) in
    omega arith

pub read_front-returns-in_ok-values-in-Vector : goal.read_front-returns-in_ok-values-in-Vector
read_front-returns-in_ok-values-in-Vector t c =
    let named = read_named c.args.types.now c.args.bound in
    let whole : read_with named c.args.ty.now c.args.words.now ≡ made_of Vector (read_several (replicate {A = Reader} c.in-Vector.count (read_with named c.in-Vector.item)) c.args.words.now) =
    ap (λ ty. read_with named ty c.args.words.now) c.in-Vector.is ∙ read-vector named c.in-Vector.count c.in-Vector.item c.args.words.now in
    rw (whole, ← c.deref.ensures) (ap (made_of Vector) c.in_ok-values-in-Vector.ensures)

pub read_items-loop-place-preserved : goal.read_items-loop-place-preserved
read_items-loop-place-preserved t c =
    let reader = read_with (read_named c.args.types.now c.args.bound) c.args.item.now in
    rw (c.in_ok-push.ensures.ok) (next_item reader c.args.count c.loop-place._place c.loop-place.values c.loop-place.rest.now c.in_ok-value.value c.in_ok-value.others.now (omega (arith, c.loop-place-test.true)) c.in_ok-value.ensures ∙ c.loop-place.invariant)
