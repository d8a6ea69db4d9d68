use Rattle.std.proofs.Common.{◌<◌, sym, subst, arith}
use Rattle.hume_net.specs.declared.plan.Plan.{Plan}
use Rattle.hume_net.specs.Plan.{IsPlan, wires_of}
use Rattle.superstep_core.proofs.Grouped.{quotient_joins}
use Rattle.turn_workers.proofs.FewItems.{few_items}
use Rattle.turn_workers.proofs.division.group_ways.Goals as goal

pub make-requires : goal.make-requires
make-requires c =
    let few = few_items c.args.plan.now c.args.groups.now c.requires.groups.0 c.requires.groups.1 in
    subst (λ (q : Plan). IsPlan q × (wires_of q < 4294967296)) (sym c.in_ok-quotient.ensures)
    (quotient_joins c.args.plan.now c.args.groups.now c.requires.groups.0 c.requires.plan.0, omega (arith, few))
