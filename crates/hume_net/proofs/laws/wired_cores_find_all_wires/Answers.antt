use Rattle.hume_net.proofs.FoundWires.{to_each, from_each, to_own, from_own}
use Rattle.hume_net.proofs.laws.wired_cores_find_all_wires.Goals as goal

pub returns-clause-inputs : goal.returns-clause-inputs
returns-clause-inputs c = to_each

pub returns-clause-outputs : goal.returns-clause-outputs
returns-clause-outputs c = from_each

pub returns-clause-consumers : goal.returns-clause-consumers
returns-clause-consumers c = to_own

pub returns-clause-producers : goal.returns-clause-producers
returns-clause-producers c = from_own
