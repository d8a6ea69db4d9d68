use Rattle.turn_locker.proofs.Counts.{home_enabled, home_ready}
use Rattle.turn_locker.proofs.laws.nodes_of_the_least_time_are_enabled.Goals as goal

pub returns-clause-enabled : goal.returns-clause-enabled
returns-clause-enabled c = home_enabled

pub returns-clause-wires : goal.returns-clause-wires
returns-clause-wires c = home_ready
