use Rattle.std.proofs.Common.{take}
use Rattle.box_code.specs.Represents.{TestsStand}
use Rattle.box_compile.specs.inner.Emitted.{Emitted}
use Rattle.box_compile.proofs.pattern_code.emit_tests.Given as goal

abbrev pub invariant-loop-test : goal.invariant-loop-test
invariant-loop-test l = Emitted l.fn.writer l.writer (λ code from to. TestsStand code l.high l.other from to (take l.test-index l.tests))
