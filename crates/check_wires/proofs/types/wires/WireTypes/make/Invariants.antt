use Rattle.std.proofs.Common.{◌≡◌, drop}
use Rattle.check_wires.specs.types.inner.Adding.{none_yet, with_all}
use Rattle.check_wires.proofs.types.wires.WireTypes.make.Given as goal

abbrev pub invariant-loop-decl : goal.invariant-loop-decl
invariant-loop-decl l = with_all l.table.types l.found (drop l.decl-index l.decls) ≡ with_all l.table.types none_yet l.decls
