use Rattle.box_compile.specs.inner.Boxes.{HandlersFound}
use Rattle.box_compile.specs.inner.Emitted.{Emitted}
use Rattle.box_compile.specs.inner.Entries.{entry_in}
use Rattle.box_compile.proofs.boxes.emit_handlers.Given as goal

abbrev pub invariant-loop-exn : goal.invariant-loop-exn
invariant-loop-exn l = Emitted l.fn.writer l.writer (λ code from to. HandlersFound code (entry_in l.entries) l.b l.found l.exn)
