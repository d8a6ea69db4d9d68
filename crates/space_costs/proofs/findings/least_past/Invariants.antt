use Rattle.hume_base.specs.Least.{IsLeast}
use Rattle.hume_model.specs.Declarations.{declaration_of}
use Rattle.hume_model.proofs.Findings.{IsAmong}
use Rattle.space_costs.specs.inner.Parts.{rule_of, PartPasses}
use Rattle.space_costs.proofs.findings.least_past.Given as goal

abbrev pub invariant-loop-n : goal.invariant-loop-n
invariant-loop-n l = IsLeast (IsAmong l.core.nodes declaration_of (PartPasses l.part l.core) (rule_of l.part) l.n) l.least
