use Rattle.hume_net.specs.Plan.{plan_of}
use Rattle.box_step.specs.nodes.Openings.{IsOpeningOf}
use Rattle.step_turns.specs.Rounds.{AllRight}
use Rattle.turn_workers.proofs.rounds.share_round.Given as goal

abbrev pub ghosts-share_on : goal.ghosts-share_on
ghosts-share_on g a = record {
  opened = λ opening. IsOpeningOf a.core.now opening × AllRight opening a.nodes.now.items a.home.now.items;
  plan = plan_of a.core.now;
  grouping = a.division.now.groups;
  steps = a.steps;
}
