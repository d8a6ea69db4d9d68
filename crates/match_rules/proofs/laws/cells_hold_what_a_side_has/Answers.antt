use Rattle.match_rules.proofs.SideCells.{side_cells, side_rooms}
use Rattle.match_rules.proofs.laws.cells_hold_what_a_side_has.Goals as goal

pub returns-clause-values : goal.returns-clause-values
returns-clause-values c = side_cells

pub returns-clause-rooms : goal.returns-clause-rooms
returns-clause-rooms c = side_rooms
