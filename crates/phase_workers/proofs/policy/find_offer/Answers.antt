use Rattle.std.proofs.Common.{◌<◌, sym, subst}
use Rattle.hume_net.specs.declared.plan.Plan.{Plan}
use Rattle.hume_net.specs.Plan.{IsPlan, plan_of, wires_of}
use Rattle.phase_workers.proofs.FewItems.{few_nodes, few_wires}
use Rattle.phase_workers.proofs.policy.find_offer.Goals as goal

pub find_plan-requires : goal.find_plan-requires
find_plan-requires c = few_nodes c.args.core.now c.requires.plan.1

pub partition-requires-clause-plan : goal.partition-requires-clause-plan
partition-requires-clause-plan c =
    subst (λ (p : Plan). IsPlan p × (wires_of p < 4294967296)) (sym c.in_ok-plan.ensures)
    (c.requires.plan.0, few_wires (plan_of c.args.core.now) c.requires.plan.1)
