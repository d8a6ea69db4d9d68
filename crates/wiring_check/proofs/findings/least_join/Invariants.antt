use Rattle.hume_base.specs.declared.rule.Rule.TheVariants.{C54}
use Rattle.hume_base.specs.Least.{IsLeast}
use Rattle.hume_model.proofs.Findings.{IsAmong}
use Rattle.wiring_check.proofs.Broken.{wire_declaration, JoinsAt}
use Rattle.wiring_check.proofs.findings.least_join.Given as goal

abbrev pub invariant-loop-w : goal.invariant-loop-w
invariant-loop-w l = IsLeast (IsAmong l.core.wires wire_declaration (JoinsAt l.core) C54 l.w) l.least
