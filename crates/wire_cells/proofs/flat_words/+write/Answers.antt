use Rattle.std.proofs.Common.{◌<◌, List, ℕ, length, arith, sym, subst}
use Rattle.hume_base.specs.declared.types.Ty.{Ty}
use Rattle.hume_base.specs.declared.types.Value.{Value}
use Rattle.wire_cells.specs.inner.Written.{flat_below, IsWritten}
use Rattle.wire_cells.proofs.Writing.{written-more, written-padded, data-long, words-some, seen-at, part-more, part-fits, parts-all, item-fits, item-smaller}
use Rattle.wire_cells.proofs.flat_words.+write.Goals as goal

pub write_items-write_value-end-requires : goal.write_items-write_value-end-requires
write_items-write_value-end-requires t c =
    let words : Value → List ℕ = flat_below c.args.types.now c.args.bound c.args.item.now in
    let smaller = item-smaller c.loop-i.i c.args.values.now c.index-values-i.result c.loop-i-test.true c.index-values-i.is in
    let fits = item-fits words c.loop-i.i c.args.values.now c.index-values-i.result c.loop-i-test.true c.index-values-i.is in
    (omega (arith, smaller), (c.requires.sizes, omega (arith, fits, c.loop-i.invariant.place, c.loop-i.invariant.room, c.requires.room)))

pub write_parts-write_value-end-requires : goal.write_parts-write_value-end-requires
write_parts-write_value-end-requires t c =
    let words : Ty → Value → List ℕ = flat_below c.args.types.now c.args.bound in
    let value : Value = c.index-values-i.result in
    let here = seen-at c.args.tys.now c.loop-i.i c.index-tys-i.result c.deref.result.now c.deref.ensures c.index-tys-i.is in
    let below : c.loop-i.i < length c.args.tys.now = omega (arith, c.loop-i-test.true, c.min-i-end.ensures) in
    let within : c.loop-i.i < length c.args.values.now = omega (arith, c.loop-i-test.true, c.min-i-end.ensures) in
    let smaller = item-smaller c.loop-i.i c.args.values.now value within c.index-values-i.is in
    let fits = part-fits words c.loop-i.i c.args.tys.now c.args.values.now c.deref.result.now value below within here c.index-values-i.is in
    (omega (arith, smaller), (c.requires.sizes, omega (arith, fits, c.loop-i.invariant.place, c.loop-i.invariant.room, c.requires.room)))

pub write_parts-loop-i-preserved : goal.write_parts-loop-i-preserved
write_parts-loop-i-preserved t c =
    let words : Ty → Value → List ℕ = flat_below c.args.types.now c.args.bound in
    let value : Value = c.index-values-i.result in
    let here = seen-at c.args.tys.now c.loop-i.i c.index-tys-i.result c.deref.result.now c.deref.ensures c.index-tys-i.is in
    let below : c.loop-i.i < length c.args.tys.now = omega (arith, c.loop-i-test.true, c.min-i-end.ensures) in
    let within : c.loop-i.i < length c.args.values.now = omega (arith, c.loop-i-test.true, c.min-i-end.ensures) in
    let more = part-more words c.loop-i.i c.args.tys.now c.args.values.now c.deref.result.now value below within here c.index-values-i.is in
    subst (λ (ws : List ℕ). IsWritten c.args.into.now c.args.at ws c.write_value-end.new.into c.write_value-end.result) (sym more)
    (written-more _ _ _ _ _ _ _ _ c.loop-i.invariant c.write_value-end.ensures)

pub write_parts-returns : goal.write_parts-returns
write_parts-returns t c =
    let words : Ty → Value → List ℕ = flat_below c.args.types.now c.args.bound in
    let all = parts-all words c.loop-i.i c.args.tys.now c.args.values.now (omega (arith, c.loop-i-test.false, c.min-i-end.ensures)) in
    subst (λ (ws : List ℕ). IsWritten c.args.into.now c.args.at ws c.loop-i.into c.loop-i.end) all c.loop-i.invariant

pub write_data-write_constructor-end-requires : goal.write_data-write_constructor-end-requires
write_data-write_constructor-end-requires t c =
    let types = c.args.types.now in
    let below : c.args.number < c.args.bound = omega (arith, c.if-number-bound.false) in
    let long = data-long types c.args.bound c.args.number c.in-Some.sum.now c.args.value.now c.requires.sizes below c.in-Some.ensures in
    (omega arith, (c.requires.sizes, omega (arith, long, c.requires.room)))

pub write_data-write_zeros-requires : goal.write_data-write_zeros-requires
write_data-write_zeros-requires t c =
    let types = c.args.types.now in
    let below : c.args.number < c.args.bound = omega (arith, c.if-number-bound.false) in
    let long = data-long types c.args.bound c.args.number c.in-Some.sum.now c.args.value.now c.requires.sizes below c.in-Some.ensures in
    omega (arith, long, c.requires.room, c.write_constructor-end.ensures.place, c.write_constructor-end.ensures.room)

pub write_data-returns-in-Some : goal.write_data-returns-in-Some
write_data-returns-in-Some t c =
    let types = c.args.types.now in
    let below : c.args.number < c.args.bound = omega (arith, c.if-number-bound.false) in
    let whole = words-some types c.args.bound c.args.number c.in-Some.sum.now c.args.value.now c.requires.sizes below c.in-Some.ensures in
    subst (λ (ws : List ℕ). IsWritten c.args.into.now c.args.at ws c.write_zeros.new.into c.write_zeros.result) (sym whole)
    (written-padded _ _ _ _ _ _ _ _ c.write_constructor-end.ensures c.write_zeros.ensures)
