use Rattle.std.proofs.Common.{◌≡◌, ◌∙◌, Some, slice_get, refl, sym, ap, subst}
use Rattle.std.proofs.lemmas.Option.{slice_get_read}
use Rattle.wiring_check.specs.inner.Slots.{AreFirst, empty_rows}
use Rattle.wiring_check.proofs.SlotSteps.{first_start, first_more, has_end}
use Rattle.wiring_check.proofs.first_wires.first_wires.Goals as goal

pub loop-w-init : goal.loop-w-init
loop-w-init c =
    subst (λ rows. AreFirst c.args.core.now c.args.side 0 rows) (sym (c.in_ok-slots.ensures ∙ ap (empty_rows c.args.side) c.as_slice.ensures)) (first_start c.args.core.now c.args.side)

pub put_first-requires : goal.put_first-requires
put_first-requires c =
    let wire = c.index-wires-w.result in
    let here : slice_get c.as_slice-wires.result.now c.loop-w.w ≡ Some wire = slice_get_read _ _ c.loop-w.w wire refl c.loop-w-test.true c.index-wires-w.is in
    let at : slice_get c.args.core.now.wires c.loop-w.w ≡ Some wire = rw c.as_slice-wires.ensures at here in
    rw (c.node.ensures, c.port.ensures) (has_end c.args.core.now c.args.side c.loop-w.slots wire c.loop-w.invariant.slots (c.requires.wires c.loop-w.w wire at))

pub loop-w-preserved : goal.loop-w-preserved
loop-w-preserved c =
    let wire = c.index-wires-w.result in
    let here : slice_get c.as_slice-wires.result.now c.loop-w.w ≡ Some wire = slice_get_read _ _ c.loop-w.w wire refl c.loop-w-test.true c.index-wires-w.is in
    let at : slice_get c.args.core.now.wires c.loop-w.w ≡ Some wire = rw c.as_slice-wires.ensures at here in
    let has = has_end c.args.core.now c.args.side c.loop-w.slots wire c.loop-w.invariant.slots (c.requires.wires c.loop-w.w wire at) in
    rw (c.put_first.ensures, c.node.ensures, c.port.ensures) (first_more c.args.core.now c.args.side c.loop-w.w c.loop-w.slots wire c.loop-w.invariant at has)
