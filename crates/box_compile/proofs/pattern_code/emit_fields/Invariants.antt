use Rattle.std.proofs.Common.{◌≡◌, take, length}
use Rattle.box_code.specs.Represents.{FieldsStand}
use Rattle.box_compile.specs.inner.Emitted.{Emitted}
use Rattle.box_compile.proofs.pattern_code.emit_fields.Given as goal

abbrev pub invariant-loop-i : goal.invariant-loop-i
invariant-loop-i l = record {
  count : l.count ≡ length l.spots;
  stands : Emitted l.fn.writer l.writer (λ code from to. FieldsStand code l.high from to (take l.i l.spots));
}
