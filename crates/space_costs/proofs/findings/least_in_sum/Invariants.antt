use Rattle.std.proofs.Common.{◌≡◌}
use Rattle.hume_base.specs.declared.rule.Rule.TheVariants.{C78}
use Rattle.hume_base.specs.Least.{IsLeast}
use Rattle.hume_model.specs.Declarations.{declaration_of}
use Rattle.hume_model.proofs.Findings.{IsAmong}
use Rattle.box_costs.specs.CostRules.{SpacePasses, space_before}
use Rattle.space_costs.specs.inner.Standing.{counted}
use Rattle.space_costs.proofs.findings.least_in_sum.Given as goal

abbrev pub invariant-loop-n : goal.invariant-loop-n
invariant-loop-n l = record {
  least : IsLeast (IsAmong l.core.nodes declaration_of (SpacePasses l.core) C78 l.n) l.least;
  sum : l.before ≡ counted (space_before l.core l.n);
}
