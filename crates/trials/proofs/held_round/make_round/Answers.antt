use Rattle.std.proofs.Common.{◌≤◌, length, ap, sym, ◌∙◌, subst}
use Rattle.hume_base.specs.declared.limits.TheConstants.{MAX_NODES, MAX_WIRES}
use Rattle.hume_model.specs.declared.core_tree.NodeC.TheVariants.{To}
use Rattle.hume_model.specs.declared.core_tree.Core.{Core}
use Rattle.hume_net.specs.declared.state.State.{State}
use Rattle.hume_net.specs.Sides.{part_of}
use Rattle.hume_net.proofs.rounds_lemmas.Clearing.{none_at}
use Rattle.phase_workers.specs.Engines.{core_of}
use Rattle.trials.proofs.Streams.{stream_there}
use Rattle.trials.proofs.held_round.make_round.Goals as goal

pub round-requires-clause-clear : goal.round-requires-clause-clear
round-requires-clause-clear g c κs within n output =
    let there = stream_there (core_of c.args.engine) n output in
    ap (λ (s : State). (part_of s n).taken) c.requires.begun ∙ none_at (core_of c.args.engine) n (To there.0) there.1

pub tell-requires-clause-nodes : goal.tell-requires-clause-nodes
tell-requires-clause-nodes g c = subst (λ (core : Core). length core.nodes ≤ MAX_NODES) (sym c.round.ensures.core) c.requires.nodes

pub tell-requires-clause-wires : goal.tell-requires-clause-wires
tell-requires-clause-wires g c = subst (λ (core : Core). length core.wires ≤ MAX_WIRES) (sym c.round.ensures.core) c.requires.wires
