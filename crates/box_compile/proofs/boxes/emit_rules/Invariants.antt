use Rattle.std.proofs.Common.{take}
use Rattle.box_compile.specs.inner.Boxes.{RulesFound}
use Rattle.box_compile.specs.inner.Emitted.{Emitted}
use Rattle.box_compile.specs.inner.Entries.{entry_in}
use Rattle.box_compile.proofs.boxes.emit_rules.Given as goal

abbrev pub invariant-loop-rule : goal.invariant-loop-rule
invariant-loop-rule l = Emitted l.fn.writer l.writer (λ code from to. RulesFound code (entry_in l.entries) l.places (take l.rule-index l.rules))
