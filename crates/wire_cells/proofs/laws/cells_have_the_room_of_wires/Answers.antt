use Rattle.wire_cells.proofs.Holding.{same_room}
use Rattle.wire_cells.proofs.laws.cells_have_the_room_of_wires.Goals as goal

pub returns : goal.returns
returns c = same_room
