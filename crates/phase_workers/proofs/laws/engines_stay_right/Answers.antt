use Rattle.phase_workers.proofs.NodeFilled.{stays_right}
use Rattle.phase_workers.proofs.laws.engines_stay_right.Goals as goal

pub returns : goal.returns
returns c want old new node name olds news result fill core bytes read right = stays_right want old new node name olds news result fill core bytes read right
