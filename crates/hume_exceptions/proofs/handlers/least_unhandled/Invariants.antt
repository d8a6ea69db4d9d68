use Rattle.hume_base.specs.declared.rule.Rule.TheVariants.{C60}
use Rattle.hume_base.specs.Least.{IsLeast}
use Rattle.hume_model.specs.Declarations.{declaration_of}
use Rattle.hume_model.specs.HandlerRules.{LeavesUnhandled}
use Rattle.hume_model.proofs.Findings.{IsAmong}
use Rattle.hume_exceptions.specs.inner.Boxes.{IsBoxWith}
use Rattle.hume_exceptions.proofs.handlers.least_unhandled.Given as goal

abbrev pub invariant-loop-n : goal.invariant-loop-n
invariant-loop-n l = IsLeast (IsAmong l.core.nodes declaration_of (λ n. IsBoxWith l.core LeavesUnhandled) C60 l.n) l.least
