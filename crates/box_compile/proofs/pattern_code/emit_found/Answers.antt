use Rattle.std.proofs.Common.{List, ◌∙◌, subst}
use Rattle.box_code.specs.Paths.{Spot, Test}
use Rattle.box_code.specs.Represents.{FieldsStand, TestsStand}
use Rattle.box_compile.specs.inner.Emitted.{Emitted}
use Rattle.box_compile.proofs.pattern_code.emit_found.Goals as goal

pub returns : goal.returns
returns c = record {
  mid = c.emit_tests.new.writer;
  tests_stand = subst (λ (tests : List Test). Emitted c.args.writer.now c.emit_tests.new.writer
      (λ code from to. TestsStand code c.args.high c.args.other from to tests)) c.as_slice.ensures c.in_ok-emit_tests.ensures;
  fields_stand = subst (λ (spots : List Spot). Emitted c.emit_tests.new.writer c.emit_fields.new.writer
      (λ code from to. FieldsStand code c.args.high from to spots)) c.as_slice-2.ensures c.in_ok-emit_fields.ensures;
  all = c.in_ok-count.ensures ∙ c.len.ensures;
}
