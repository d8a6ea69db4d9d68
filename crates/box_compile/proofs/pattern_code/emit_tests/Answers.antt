use Rattle.std.proofs.Common.{List, sym, subst}
use Rattle.box_code.specs.Paths.{Test}
use Rattle.box_code.specs.Represents.{TestsStand}
use Rattle.box_compile.specs.inner.Emitted.{Emitted}
use Rattle.box_compile.proofs.Taken.{taken_more, taken_all}
use Rattle.box_compile.proofs.PatternCode.{no_tests, tests_more}
use Rattle.box_compile.proofs.pattern_code.emit_tests.Goals as goal

pub loop-test-init : goal.loop-test-init
loop-test-init c = no_tests c.args.high c.args.other

pub loop-test-preserved : goal.loop-test-preserved
loop-test-preserved c =
    subst (λ (tests : List Test). Emitted c.args.writer.now c.emit_test.new.writer (λ code from to. TestsStand code c.args.high c.args.other from to tests))
    (sym (taken_more c.args.tests.now c.loop-test.test-index c.test-item.result c.loop-test-test.true c.test-item.is))
    (tests_more c.loop-test.invariant c.in_ok-emit_test.ensures)

pub returns : goal.returns
returns c =
    subst (λ (tests : List Test). Emitted c.args.writer.now c.loop-test.writer (λ code from to. TestsStand code c.args.high c.args.other from to tests))
    (taken_all c.args.tests.now c.loop-test.test-index c.loop-test-test.false) c.loop-test.invariant
