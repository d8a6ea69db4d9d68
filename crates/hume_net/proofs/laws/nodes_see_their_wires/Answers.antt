use Rattle.hume_net.proofs.FirstFound.{sees_wire}
use Rattle.hume_net.proofs.laws.nodes_see_their_wires.Goals as goal

pub returns : goal.returns
returns c = sees_wire
