use Rattle.std.proofs.Common.{refl, ◌≡◌, ◌+◌, ◌<◌, length, map, replicate, Some, slice_get, ap, rules, arith}
use Rattle.std.proofs.lemmas.List.{length-replicate, length-map}
use Rattle.std.proofs.lemmas.Option.{slice_get_read}
use Rattle.hume_base.specs.declared.types.Ty.{size-Ty}
use Rattle.hume_model.proofs.Ranks.{slice_get-most}
use Rattle.hume_model.proofs.WordReading.{rank, sum_size, rank-falls}
use Rattle.match_rules.specs.inner.Builders.{Builder, build_with, build_named}
use Rattle.match_rules.proofs.Objects.{part_fits, next_underway, whole_fits, fields_fit, data_put, item_at, part_at, seen_at}
use Rattle.match_rules.proofs.building.+build.Goals as goal

pub build_data-build_constructor-word-requires : goal.build_data-build_constructor-word-requires
build_data-build_constructor-word-requires t c =
    let found : slice_get c.args.types.now.sums c.args.number ≡ Some c.in-Some.sum.now = search rules in
    let falls : rank c.args.types.now c.args.number + sum_size c.in-Some.sum.now + 1 < rank c.args.types.now c.args.bound = rank-falls _ _ _ _ found
    (omega arith) in
    let below : c.args.number < c.args.bound = omega (arith, c.if-number-bound.false) in
    let put = ap (λ ws. length ws) (data_put c.args.types.now c.args.bound c.args.number
    (length c.args.heap.now.words) c.args.words.now c.in-Some.sum.now below found) in
    (omega arith, omega (arith, c.requires, put))

pub build_items-put_zeros-place-requires : goal.build_items-put_zeros-place-requires
build_items-put_zeros-place-requires t c =
    fields_fit c.args.heap.now 0 c.args.count (replicate {A = Builder} c.args.count
    (build_with (build_named c.args.types.now c.args.bound) c.args.item.now)) c.args.words.now
    (length-replicate c.args.count _) c.requires

pub build_items-build_front-word-requires : goal.build_items-build_front-word-requires
build_items-build_front-word-requires t c =
    let builder = build_with (build_named c.args.types.now c.args.bound) c.args.item.now in
    let builders = replicate {A = Builder} c.args.count builder in
    let all : length builders ≡ c.args.count = length-replicate c.args.count builder in (
      omega arith,
      part_fits c.args.heap.now 0 c.args.count builders c.args.words.now c.loop-i.i c.loop-i.heap c.loop-i.rest.now c.loop-i.invariant.1
          (omega (arith, c.loop-i-test.true)) all builder
          (item_at c.args.count c.loop-i.i builder (omega (arith, c.loop-i-test.true)))
          (whole_fits c.args.heap.now 0 c.args.count builders c.args.words.now all c.requires),
    )

pub build_items-loop-i-preserved : goal.build_items-loop-i-preserved
build_items-loop-i-preserved t c =
    let builder = build_with (build_named c.args.types.now c.args.bound) c.args.item.now in
    let builders = replicate {A = Builder} c.args.count builder in (
      c.loop-i.invariant.0,
      next_underway c.args.heap.now 0 c.args.count builders c.args.words.now c.loop-i.i c.loop-i.heap c.loop-i.rest.now c.loop-i.invariant.1
          (omega (arith, c.loop-i-test.true))
          (length-replicate c.args.count builder) builder (item_at c.args.count c.loop-i.i builder
          (omega (arith, c.loop-i-test.true))) c.put_zeros-place.result c.build_front-word.result.0 c.build_front-word.result.1.now
          c.build_front-word.new.heap c.set_field.new.self c.loop-i.invariant.0 c.build_front-word.ensures.heap c.build_front-word.ensures.word c.build_front-word.ensures.rest c.set_field.ensures.words,
    )

pub build_parts-put_zeros-place-requires : goal.build_parts-put_zeros-place-requires
build_parts-put_zeros-place-requires t c =
    fields_fit c.args.heap.now c.args.tag (length c.args.tys.now) (map (build_with (build_named c.args.types.now c.args.bound)) c.args.tys.now) c.args.words.now
    (length-map c.args.tys.now _) c.requires

pub build_parts-build_front-word-requires : goal.build_parts-build_front-word-requires
build_parts-build_front-word-requires t c =
    let builder = build_with (build_named c.args.types.now c.args.bound) in
    let builders = map builder c.args.tys.now in
    let here = seen_at c.args.tys.now c.loop-i.i c.index-tys-i.result c.deref.result.now c.deref.ensures c.index-tys-i.is in
    let all : length builders ≡ length c.args.tys.now = length-map c.args.tys.now builder in
    let less : c.loop-i.i < length c.args.tys.now = omega (arith, c.loop-i-test.true) in
    let smaller = slice_get-most size-Ty c.args.tys.now c.loop-i.i c.deref.result.now
    (slice_get_read c.args.tys.now (length c.args.tys.now) c.loop-i.i c.deref.result.now refl less here) in (
      omega (arith, smaller),
      part_fits c.args.heap.now c.args.tag (length c.args.tys.now) builders c.args.words.now c.loop-i.i c.loop-i.heap c.loop-i.rest.now c.loop-i.invariant.1 less all (builder c.deref.result.now)
          (part_at builder c.args.tys.now c.loop-i.i c.deref.result.now less here)
          (whole_fits c.args.heap.now c.args.tag (length c.args.tys.now) builders c.args.words.now all c.requires),
    )

pub build_parts-loop-i-preserved : goal.build_parts-loop-i-preserved
build_parts-loop-i-preserved t c =
    let builder = build_with (build_named c.args.types.now c.args.bound) in
    let builders = map builder c.args.tys.now in
    let here = seen_at c.args.tys.now c.loop-i.i c.index-tys-i.result c.deref.result.now c.deref.ensures c.index-tys-i.is in
    let less : c.loop-i.i < length c.args.tys.now = omega (arith, c.loop-i-test.true) in (
      c.loop-i.invariant.0,
      next_underway c.args.heap.now c.args.tag (length c.args.tys.now) builders c.args.words.now c.loop-i.i c.loop-i.heap c.loop-i.rest.now c.loop-i.invariant.1 less
          (length-map c.args.tys.now builder) (builder c.deref.result.now)
          (part_at builder c.args.tys.now c.loop-i.i c.deref.result.now less here) c.put_zeros-place.result c.build_front-word.result.0
          c.build_front-word.result.1.now c.build_front-word.new.heap c.set_field.new.self c.loop-i.invariant.0 c.build_front-word.ensures.heap c.build_front-word.ensures.word c.build_front-word.ensures.rest c.set_field.ensures.words,
    )
