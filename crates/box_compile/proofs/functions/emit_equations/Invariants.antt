use Rattle.std.proofs.Common.{take}
use Rattle.box_compile.specs.inner.Emitted.{Emitted}
use Rattle.box_compile.specs.inner.Entries.{entry_in, EquationsBegin}
use Rattle.box_compile.proofs.functions.emit_equations.Given as goal

abbrev pub invariant-loop-equation : goal.invariant-loop-equation
invariant-loop-equation l = Emitted l.fn.writer l.writer (λ code from to. EquationsBegin code (entry_in l.entries) l.count from to
    (take l.equation-index l.equations))
