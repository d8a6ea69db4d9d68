use Rattle.hume_base.specs.Least.{IsLeast}
use Rattle.hume_model.specs.Declarations.{declaration_of}
use Rattle.hume_model.proofs.Findings.{IsAmong}
use Rattle.wiring_check.specs.inner.Slots.{lack_rule}
use Rattle.wiring_check.proofs.Broken.{LacksAt}
use Rattle.wiring_check.proofs.findings.least_lack.Given as goal

abbrev pub invariant-loop-n : goal.invariant-loop-n
invariant-loop-n l = IsLeast (IsAmong l.core.nodes declaration_of (LacksAt l.core l.side) (lack_rule l.side) l.n) l.least
