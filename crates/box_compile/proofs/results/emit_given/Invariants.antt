use Rattle.std.proofs.Common.{◌≡◌, ◌+◌, length, take}
use Rattle.box_costs.specs.Bounds.{given_outs}
use Rattle.box_code.specs.Represents.{AllRepresent}
use Rattle.box_compile.specs.inner.Emitted.{Emitted}
use Rattle.box_compile.specs.inner.Entries.{entry_in}
use Rattle.box_compile.proofs.results.emit_given.Given as goal

abbrev pub invariant-loop-out : goal.invariant-loop-out
invariant-loop-out l = record {
  top : l.top ≡ l.high + length (given_outs (take l.out-index l.outs));
  stands : Emitted l.fn.writer l.writer (λ code from to. AllRepresent code (entry_in l.entries) l.places l.high from to (given_outs (take l.out-index l.outs)));
}
