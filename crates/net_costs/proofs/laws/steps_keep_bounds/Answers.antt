use Rattle.net_costs.proofs.StepBounds.{step_within, lockstep_within}
use Rattle.net_costs.proofs.laws.steps_keep_bounds.Goals as goal

pub returns-clause-states : goal.returns-clause-states
returns-clause-states c = step_within

pub returns-clause-locksteps : goal.returns-clause-locksteps
returns-clause-locksteps c = lockstep_within
