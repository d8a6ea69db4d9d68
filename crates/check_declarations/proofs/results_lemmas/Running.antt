-- Tasks, one after the other.
use Rattle.std.proofs.lemmas.Grind.{common_steps}
use Rattle.check_tasks.proofs.Given.{given_some, given_none}
use Rattle.check_tasks.proofs.results_lemmas.ResultOrder.{run_append}

pub ruleset first_steps = (common_steps, run_append)

pub ruleset walk_steps = (common_steps, given_some, given_none)

pub ruleset perform_steps = (common_steps, given_some, given_none)
