use Rattle.std.proofs.Common.{◌≡◌, ◌+◌, ◌<◌, ◌≤◌, List, length, take, sym, ap, ◌∙◌, subst, arith}
use Rattle.box_code.specs.Paths.{Spot}
use Rattle.box_code.specs.Represents.{FieldsStand}
use Rattle.box_compile.specs.inner.Emitted.{Emitted}
use Rattle.box_compile.proofs.Taken.{taken_more, taken_all, taken_long}
use Rattle.box_compile.proofs.PatternCode.{no_fields, fields_more}
use Rattle.box_compile.proofs.pattern_code.emit_fields.Goals as goal

pub loop-i-init : goal.loop-i-init
loop-i-init c = record { count = c.in_ok-count.ensures; stands = no_fields c.args.high }

pub loop-i-preserved : goal.loop-i-preserved
loop-i-preserved c =
    let spots = c.args.spots.now in
    let low : c.loop-i.i < length spots = omega (arith, c.loop-i-test.true, c.loop-i.invariant.count) in
    let top : c.in_ok-plus.field-0 ≡ c.args.high + length (take c.loop-i.i spots) = (let l = taken_long spots c.loop-i.i (omega (arith, low)) in
    c.in_ok-plus.ensures ∙ ap (λ k. c.args.high + k) (sym l)) in
    record {
      count = c.loop-i.invariant.count;
      stands = subst (λ (found : List Spot). Emitted c.args.writer.now c.emit_field.new.writer (λ code from to. FieldsStand code c.args.high from to found))
          (sym (taken_more spots c.loop-i.i c.index-spots-i.result low c.index-spots-i.is))
          (fields_more c.in_ok-plus.field-0 top c.loop-i.invariant.stands c.in_ok-emit_field.ensures);
    }

pub returns : goal.returns
returns c =
    let past : length c.args.spots.now ≤ c.loop-i.i = omega (arith, c.loop-i-test.false, c.loop-i.invariant.count) in
    subst (λ (found : List Spot). Emitted c.args.writer.now c.loop-i.writer (λ code from to. FieldsStand code c.args.high from to found))
    (taken_all c.args.spots.now c.loop-i.i past) c.loop-i.invariant.stands
