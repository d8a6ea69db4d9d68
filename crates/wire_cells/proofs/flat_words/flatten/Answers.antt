use Rattle.std.proofs.Common.{◌≡◌, ◌∙◌, length, arith, sym, ap, subst, ℕ}
use Rattle.hume_base.specs.Flat.{flat}
use Rattle.hume_base.specs.Sizes.{size_of}
use Rattle.hume_base.proofs.FlatLengths.{flat_long}
use Rattle.wire_cells.specs.inner.Written.{flat_below, IsWritten}
use Rattle.wire_cells.proofs.Writing.{exact-sizes, written-whole}
use Rattle.wire_cells.proofs.flat_words.flatten.Goals as goal

pub write_value-requires-clause-sizes : goal.write_value-requires-clause-sizes
write_value-requires-clause-sizes c = exact-sizes c.args.types.now c.requires.sizes c.requires.readable

pub write_value-requires-clause-room : goal.write_value-requires-clause-room
write_value-requires-clause-room c =
    let types = c.args.types.now in
    let ty = c.args.ty.now in
    let value = c.args.value.now in
    let whole : length (flat_below types c.len.result ty value) ≡ size_of types ty =
    ap (λ n. length (flat_below types n ty value)) c.len.ensures ∙ flat_long types ty value c.requires.value in
    omega (arith, whole, c.requires.room)

pub returns : goal.returns
returns c =
    let types = c.args.types.now in
    let ty = c.args.ty.now in
    let value = c.args.value.now in
    let old = c.args.into.now in
    let new = c.write_value.new.into in
    let end = c.write_value.result in
    let written : IsWritten old 0 (flat types ty value) new end =
    subst (λ (n : ℕ). IsWritten old 0 (flat_below types n ty value) new end) c.len.ensures c.write_value.ensures in
    written-whole old new (flat types ty value) end written
    (flat_long types ty value c.requires.value ∙ sym c.requires.room)
