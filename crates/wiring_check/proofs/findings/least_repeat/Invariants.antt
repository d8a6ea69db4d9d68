use Rattle.hume_base.specs.Least.{IsLeast}
use Rattle.hume_model.proofs.Findings.{IsAmong}
use Rattle.wiring_check.specs.inner.Slots.{repeat_rule}
use Rattle.wiring_check.proofs.Broken.{wire_declaration, RepeatsAt}
use Rattle.wiring_check.proofs.findings.least_repeat.Given as goal

abbrev pub invariant-loop-w : goal.invariant-loop-w
invariant-loop-w l = IsLeast (IsAmong l.core.wires wire_declaration (RepeatsAt l.core l.side) (repeat_rule l.side) l.w) l.least
