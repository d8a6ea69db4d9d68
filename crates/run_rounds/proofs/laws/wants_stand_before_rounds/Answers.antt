use Rattle.run_rounds.proofs.WantsOfRounds.{wants_of_run}
use Rattle.run_rounds.proofs.laws.wants_stand_before_rounds.Goals as goal

pub returns : goal.returns
returns c core inputs traced steps before later name count is = wants_of_run core inputs traced steps before later name count is
