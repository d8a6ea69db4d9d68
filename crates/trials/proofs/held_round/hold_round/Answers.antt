use Rattle.std.proofs.Common.{◌≤◌, length, sym, subst}
use Rattle.hume_base.specs.declared.limits.TheConstants.{MAX_NODES, MAX_WIRES}
use Rattle.hume_model.specs.declared.core_tree.Core.{Core}
use Rattle.trials.proofs.Sources.{few_nodes, few_wires}
use Rattle.trials.proofs.held_round.hold_round.Goals as goal

pub make_round-requires-clause-nodes : goal.make_round-requires-clause-nodes
make_round-requires-clause-nodes g c κs within =
    subst (λ (core : Core). length core.nodes ≤ MAX_NODES) (sym c.in_ok-engine.ensures.core) (few_nodes c.args.accepted c.requires)

pub make_round-requires-clause-wires : goal.make_round-requires-clause-wires
make_round-requires-clause-wires g c κs within =
    subst (λ (core : Core). length core.wires ≤ MAX_WIRES) (sym c.in_ok-engine.ensures.core) (few_wires c.args.accepted c.requires)
