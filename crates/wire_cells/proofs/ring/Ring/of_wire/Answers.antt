use Rattle.std.proofs.Common.{◌≡◌, ◌≤◌, ◌+◌, ◌*◌, ◌++◌, ℕ, List, length, take, drop, map, ap, sym, ◌∙◌, arith}
use Rattle.hume_base.specs.Sizes.{size_of}
use Rattle.std.specs.Option.{option_to_list}
use Rattle.std.proofs.Math.Nat.{mul-le-mul_right}
use Rattle.hume_base.specs.Flat.{flat}
use Rattle.hume_model.specs.WireEnds.{HasEnds}
use Rattle.wire_cells.specs.inner.Rings.{rows, from_first, wrapped}
use Rattle.wire_cells.proofs.Frames.{readable, size_as_written}
use Rattle.wire_cells.proofs.Rings.{refilled, one_at_most, on_from_row, first_values}
use Rattle.wire_cells.proofs.ring.Ring.of_wire.Goals as goal

pub write_first-count-requires-clause-readable : goal.write_first-count-requires-clause-readable
write_first-count-requires-clause-readable c = readable c.args.core.now c.requires.core

pub write_first-count-requires-clause-typed : goal.write_first-count-requires-clause-typed
write_first-count-requires-clause-typed c = (c.requires.core.wires c.args.number c.args.wire.now c.requires.wire).initial

pub write_first-count-requires-clause-size : goal.write_first-count-requires-clause-size
write_first-count-requires-clause-size c =
    let ends : HasEnds c.args.core.now c.args.wire.now = c.requires.core.wires c.args.number c.args.wire.now c.requires.wire in
    size_as_written (size_of c.args.core.now.types c.args.wire.now.ty) c.size-size.result ends.written.words c.size-size.ensures

pub write_first-count-requires-clause-room : goal.write_first-count-requires-clause-room
write_first-count-requires-clause-room c =
    let ends : HasEnds c.args.core.now c.args.wire.now = c.requires.core.wires c.args.number c.args.wire.now c.requires.wire in
    let made = c.in_ok-words.ensures.len in
    let all = ap length c.deref_mut.ensures.value in
    let one : 1 * c.size-size.result ≤ c.args.wire.now.depth * c.size-size.result = mul-le-mul_right c.size-size.result ends.some_depth in
    omega (arith, made, all, one, c.deref_mut.ensures.len)

pub invariant_of-result : goal.invariant_of-result
invariant_of-result c =
    let ends : HasEnds c.args.core.now c.args.wire.now = c.requires.core.wires c.args.number c.args.wire.now c.requires.wire in
    let size : c.size-size.result ≡ size_of c.args.core.now.types c.args.wire.now.ty =
    size_as_written (size_of c.args.core.now.types c.args.wire.now.ty) c.size-size.result ends.written.words c.size-size.ensures in
    let few = one_at_most c.args.wire.now.initial in
    let whole : length c.write_first-count.new.into ≡ length c.in_ok-words.words.items = c.write_first-count.ensures.room
    ∙ ap length c.deref_mut.ensures.value in
    let made : length c.in_ok-words.words.items ≡ c.args.wire.now.depth * c.size-size.result = sym c.in_ok-words.words.ok.0 ∙ c.in_ok-words.ensures.len in
    let fits : c.write_first-count.result ≤ c.args.wire.now.depth = omega (arith, ends.some_depth, few, c.write_first-count.ensures.count) in (
      0,
      omega (arith, ends.some_depth),
      omega arith,
      c.on_from.ensures ∙ on_from_row c.write_first-count.result c.args.wire.now.depth c.size-size.result fits
          ∙ ap (λ n. wrapped n c.args.wire.now.depth * c.size-size.result)
          (let e : c.write_first-count.result ≡ 0 + c.write_first-count.result = omega arith in e),
      fits,
      ap length (refilled c.in_ok-words.words.items c.write_first-count.new.into c.in_ok-words.words.len c.in_ok-words.words.ok.0 whole) ∙ whole ∙ made,
      ends.depth,
      omega (arith, size, ends.written.words),
    )

pub returns : goal.returns
returns c =
    let ends : HasEnds c.args.core.now c.args.wire.now = c.requires.core.wires c.args.number c.args.wire.now c.requires.wire in
    let size : c.size-size.result ≡ size_of c.args.core.now.types c.args.wire.now.ty =
    size_as_written (size_of c.args.core.now.types c.args.wire.now.ty) c.size-size.result ends.written.words c.size-size.ensures in
    let whole : length c.write_first-count.new.into ≡ length c.in_ok-words.words.items = c.write_first-count.ensures.room
    ∙ ap length c.deref_mut.ensures.value in
    let new = refilled c.in_ok-words.words.items c.write_first-count.new.into c.in_ok-words.words.len c.in_ok-words.words.ok.0 whole in
    let depth = c.args.wire.now.depth in
    let values : rows c.write_first-count.result c.size-size.result
    (from_first 0 (take c.in_ok-words.words.len (c.write_first-count.new.into ++ drop (length c.write_first-count.new.into) c.in_ok-words.words.items)))
    ≡ map (flat c.args.core.now.types c.args.wire.now.ty) (option_to_list c.args.wire.now.initial) =
    ap (λ ws. rows c.write_first-count.result c.size-size.result (from_first 0 ws)) new
    ∙ first_values (flat c.args.core.now.types c.args.wire.now.ty) c.args.wire.now.initial c.size-size.result c.write_first-count.result
    c.write_first-count.new.into
    c.write_first-count.ensures.count c.write_first-count.ensures.words in
    ap (λ (vs : List (List ℕ)). record { number = c.args.number; time = 0; values = vs; size = c.size-size.result; depth = depth }) values
    ∙ ap (λ n. record {
      number = c.args.number;
      time = 0;
      values = map (flat c.args.core.now.types c.args.wire.now.ty)
          (option_to_list c.args.wire.now.initial);
      size = n;
      depth = depth;
    }) size
