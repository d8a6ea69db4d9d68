use Rattle.std.proofs.Common.{ap, ◌∙◌}
use Rattle.hume_model.specs.declared.core_tree.NodeC.TheVariants.{To}
use Rattle.hume_net.specs.declared.state.State.{State}
use Rattle.hume_net.specs.Sides.{part_of}
use Rattle.hume_net.proofs.rounds_lemmas.Clearing.{none_at}
use Rattle.phase_workers.specs.Engines.{core_of}
use Rattle.trials.proofs.Streams.{stream_there}
use Rattle.trials.proofs.held_round.divide_and_tell.Goals as goal

pub round-requires-clause-clear : goal.round-requires-clause-clear
round-requires-clause-clear g c κs within n output =
    let there = stream_there (core_of c.args.engine) n output in
    ap (λ (s : State). (part_of s n).taken) c.requires.begun ∙ none_at (core_of c.args.engine) n (To there.0) there.1
