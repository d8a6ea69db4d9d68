use Rattle.std.proofs.Common.{◌≡◌, ◌-◌, List, length, take, slice_get, slice_set, ap, sym, ◌∙◌, subst, arith}
use Rattle.std.specs.Int.{bit_at}
use Rattle.std.proofs.Math.Facts.{Fits-of_lt}
use Rattle.std.proofs.lemmas.Bool.{eqb-true, eqb-false}
use Rattle.std.proofs.lemmas.List.{take_all}
use Rattle.std.proofs.lemmas.Option.{slice_get_within}
use Rattle.std.proofs.lemmas.Nat.Bits.{bit_at-lt}
use Rattle.box_heap.specs.Outputs.{OutputView, absent}
use Rattle.box_code.specs.Machine.{outs_in}
use Rattle.box_machine.specs.inner.PutOutputs.{HasSize, on_top, put_out}
use Rattle.box_machine.specs.inner.Stepping.{objects_in}
use Rattle.box_machine.proofs.FromLast.{absent_put, before, below, found_there, is_there, nothing_put, own, own_is, own_put, own_size, positive, stays, zero_bit}
use Rattle.box_machine.proofs.outputs.write_outputs.Goals as goal

pub writing-init : goal.writing-init
writing-init c =
    let outs = c.args.outs.now in
    let n = outs_in c.args.mask outs in
    let all : outs_in c.args.mask (take (length outs) outs) ≡ n = ap (outs_in c.args.mask) (take_all (length outs) outs (omega arith)) in
    let enough = c.requires.enough in
    record {
      few = omega arith;
      base = omega (arith, all, enough);
      put = λ flat fit.
          nothing_put c.args.types.now (objects_in c.args.heap.now) outs c.args.mask (on_top n c.args.words.now c.args.top) c.args.out.now flat fit;
    }

pub overflow_sub-base : goal.overflow_sub-base
overflow_sub-base c =
    let one : bit_at c.args.mask (c.writing.number - 1) ≡ 1 = eqb-true (bit_at c.args.mask (c.writing.number - 1)) 1 (sym c.has_output.ensures ∙ c.if-has_output.true) in
    positive c.args.outs.now c.args.mask c.args.top c.writing.number c.writing.base c.requires.enough c.writing.invariant.few c.writing-test.true
    c.writing.invariant.base one

pub bounds-words-base : goal.bounds-words-base
bounds-words-base c =
    let one : bit_at c.args.mask (c.writing.number - 1) ≡ 1 = eqb-true (bit_at c.args.mask (c.writing.number - 1)) 1 (sym c.has_output.ensures ∙ c.if-has_output.true) in
    let low = below c.args.outs.now c.args.mask c.args.top c.writing.number c.writing.base c.requires.enough c.writing.invariant.few c.writing-test.true
    c.writing.invariant.base one in
    let some = positive c.args.outs.now c.args.mask c.args.top c.writing.number c.writing.base c.requires.enough c.writing.invariant.few c.writing-test.true
    c.writing.invariant.base one in
    let top = c.requires.top in
    omega (arith, low, some, top)

pub write_output-requires-clause-room : goal.write_output-requires-clause-room
write_output-requires-clause-room c =
    let types = c.args.types.now in
    let objects = objects_in c.args.heap.now in
    let outs = c.args.outs.now in
    let mask = c.args.mask in
    let number = c.writing.number in
    let one : bit_at mask (number - 1) ≡ 1 = eqb-true (bit_at mask (number - 1)) 1 (sym c.has_output.ensures ∙ c.if-has_output.true) in
    let room = c.requires.room in
    let few = c.writing.invariant.few in
    let more = c.writing-test.true in
    let base_is = c.writing.invariant.base in
    let words = own outs mask c.args.top number c.writing.base c.requires.enough few more base_is one types objects c.args.words.now c.args.out.now room.0 room.1
    c.index-outs-number.result c.index-outs-number.is in (
      words,
      own_is outs mask c.args.top number c.writing.base c.requires.enough few more base_is one types objects c.args.words.now c.args.out.now room.0 room.1
          c.index-outs-number.result c.index-outs-number.is,
      subst (λ (os : List OutputView). HasSize os (number - 1) (length words)) (sym (c.writing.invariant.put room.0 room.1))
          (own_size outs mask c.args.top number c.writing.base c.requires.enough few more base_is one types objects c.args.words.now c.args.out.now room.0 room.1
          c.index-outs-number.result c.index-outs-number.is),
    )

pub writing-preserved-then-has_output : goal.writing-preserved-then-has_output
writing-preserved-then-has_output c =
    let types = c.args.types.now in
    let objects = objects_in c.args.heap.now in
    let outs = c.args.outs.now in
    let mask = c.args.mask in
    let number = c.writing.number in
    let one : bit_at mask (number - 1) ≡ 1 = eqb-true (bit_at mask (number - 1)) 1 (sym c.has_output.ensures ∙ c.if-has_output.true) in
    let few = c.writing.invariant.few in
    let more = c.writing-test.true in
    let base_is = c.writing.invariant.base in
    record {
      few = omega (arith, few);
      base = before outs mask c.args.top number c.writing.base c.requires.enough few more base_is one;
      put = λ flat fit.
          let words = own outs mask c.args.top number c.writing.base c.requires.enough few more base_is one types objects c.args.words.now c.args.out.now flat fit
          c.index-outs-number.result c.index-outs-number.is in
          c.write_output.ensures words (own_is outs mask c.args.top number c.writing.base c.requires.enough few more base_is one types objects c.args.words.now
          c.args.out.now flat fit c.index-outs-number.result c.index-outs-number.is)
          ∙ ap (λ (os : List OutputView). put_out os (number - 1) words) (c.writing.invariant.put flat fit)
          ∙ own_put outs mask c.args.top number c.writing.base c.requires.enough few more base_is one types objects c.args.words.now c.args.out.now flat fit
          c.index-outs-number.result c.index-outs-number.is;
    }

pub remove-requires : goal.remove-requires
remove-requires c =
    let objects = objects_in c.args.heap.now in
    let outs = c.args.outs.now in
    let mask = c.args.mask in
    let number = c.writing.number in
    let other : bit_at mask (number - 1) ≡ 1 → ⊥ = eqb-false (bit_at mask (number - 1)) 1 (sym c.has_output.ensures ∙ c.if-has_output.false) in
    let none : bit_at mask (number - 1) ≡ 0 = zero_bit (bit_at mask (number - 1)) (bit_at-lt mask (number - 1)) other in
    let room = c.requires.room in
    let words = on_top (outs_in mask outs) c.args.words.now c.args.top in
    let there = is_there outs mask c.args.top number c.writing.base c.requires.enough c.writing.invariant.few c.writing-test.true c.writing.invariant.base none
    c.args.types.now objects words c.args.out.now room.0 room.1 in
    slice_get_within c.writing.out (number - 1) _
    (ap (λ (os : List OutputView). slice_get os (number - 1)) (c.writing.invariant.put room.0 room.1) ∙ there)

pub writing-preserved : goal.writing-preserved
writing-preserved c =
    let types = c.args.types.now in
    let objects = objects_in c.args.heap.now in
    let outs = c.args.outs.now in
    let mask = c.args.mask in
    let number = c.writing.number in
    let other : bit_at mask (number - 1) ≡ 1 → ⊥ = eqb-false (bit_at mask (number - 1)) 1 (sym c.has_output.ensures ∙ c.if-has_output.false) in
    let none : bit_at mask (number - 1) ≡ 0 = zero_bit (bit_at mask (number - 1)) (bit_at-lt mask (number - 1)) other in
    let few = c.writing.invariant.few in
    let more = c.writing-test.true in
    let base_is = c.writing.invariant.base in
    let words = on_top (outs_in mask outs) c.args.words.now c.args.top in
    record {
      few = omega (arith, few);
      base = stays outs mask c.args.top number c.writing.base c.requires.enough few more base_is none;
      put = λ flat fit.
          let output = found_there outs mask c.args.top number c.writing.base c.requires.enough few more base_is none types objects words c.args.out.now flat fit in
          let there = is_there outs mask c.args.top number c.writing.base c.requires.enough few more base_is none types objects words c.args.out.now flat fit in
          let put = c.writing.invariant.put flat fit in
          c.remove.ensures output (ap (λ (os : List OutputView). slice_get os (number - 1)) put ∙ there)
          ∙ ap (λ (os : List OutputView). slice_set os (number - 1) (absent output.size)) put
          ∙ absent_put outs mask c.args.top number c.writing.base c.requires.enough few more base_is none types objects words c.args.out.now flat fit;
    }

pub offset_bounds-words-base : goal.offset_bounds-words-base
offset_bounds-words-base c =
    let one : bit_at c.args.mask (c.writing.number - 1) ≡ 1 = eqb-true (bit_at c.args.mask (c.writing.number - 1)) 1 (sym c.has_output.ensures ∙ c.if-has_output.true) in
    let low = below c.args.outs.now c.args.mask c.args.top c.writing.number c.writing.base c.requires.enough c.writing.invariant.few c.writing-test.true
    c.writing.invariant.base one in
    let top = c.requires.top in
    Fits-of_lt (omega (arith, low, top))
