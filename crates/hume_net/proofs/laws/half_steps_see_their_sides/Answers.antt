use Rattle.hume_net.proofs.Times.{same_executed, same_stepped}
use Rattle.hume_net.proofs.laws.half_steps_see_their_sides.Goals as goal

pub returns-clause-executes : goal.returns-clause-executes
returns-clause-executes c = same_executed

pub returns-clause-supers : goal.returns-clause-supers
returns-clause-supers c = same_stepped
