-- Cells that go back to time 0.
use Rattle.std.specs.Option.{option_map}
use Rattle.std.specs.Prelude.{Option}
use Rattle.wire_cells.specs.Cells.{CellView}
use Rattle.box_step.specs.declared.nodes.cell.BoxCell.{BoxCell}

-- the cell of a node
abbrev pub begun_cell : BoxCell → BoxCell
begun_cell cell = record cell { time = 0 }

-- the cell of a wire that may be away
abbrev pub begun_wire : Option CellView → Option CellView
begun_wire cell = option_map (λ (its : CellView). record its { time = 0 }) cell
