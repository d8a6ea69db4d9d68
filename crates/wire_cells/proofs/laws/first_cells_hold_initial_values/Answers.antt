use Rattle.wire_cells.proofs.Holding.{first_holds}
use Rattle.wire_cells.proofs.laws.first_cells_hold_initial_values.Goals as goal

pub returns : goal.returns
returns c = first_holds
