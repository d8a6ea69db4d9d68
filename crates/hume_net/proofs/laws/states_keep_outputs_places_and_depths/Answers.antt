use Rattle.hume_net.proofs.AtTimes.{outputs_at, places_at, depths_at}
use Rattle.hume_net.proofs.laws.states_keep_outputs_places_and_depths.Goals as goal

pub returns-clause-outputs : goal.returns-clause-outputs
returns-clause-outputs c = outputs_at

pub returns-clause-places : goal.returns-clause-places
returns-clause-places c = places_at

pub returns-clause-depths : goal.returns-clause-depths
returns-clause-depths c = depths_at
