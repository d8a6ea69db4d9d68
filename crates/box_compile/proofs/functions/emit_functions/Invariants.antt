use Rattle.std.proofs.Common.{◌≡◌, length}
use Rattle.box_code.specs.Represents.{FunctionsStand}
use Rattle.box_compile.specs.inner.Emitted.{Emitted}
use Rattle.box_compile.specs.inner.Entries.{entry_in}
use Rattle.box_compile.proofs.functions.emit_functions.Given as goal

abbrev pub invariant-loop-i : goal.invariant-loop-i
invariant-loop-i l = record {
  count : length l.entries ≡ l.i;
  stands : Emitted l.fn.writer l.writer (λ code from to. FunctionsStand code (entry_in l.entries) l.core);
}
