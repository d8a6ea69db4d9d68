use Rattle.std.proofs.Common.{◌∙◌, Option, None, subst}
use Rattle.hume_base.specs.declared.finding.Finding.{Finding}
use Rattle.hume_base.specs.Least.{IsLeast}
use Rattle.box_costs.specs.CostRules.{BreaksCosts}
use Rattle.space_costs.proofs.NodeFindings.{fine_costs}
use Rattle.space_costs.proofs.check.costs.Goals as goal

pub returns-in-None-clause-costs : goal.returns-in-None-clause-costs
returns-in-None-clause-costs c =
    let core = c.args.core.now in
    let fine : IsLeast (BreaksCosts core) None = subst (λ (o : Option Finding). IsLeast (BreaksCosts core) o) c.in-None.is c.least_broken.ensures in
    c.of.ensures ∙ fine_costs core c.in_ok-costs.costs c.in_ok-costs.ensures fine
