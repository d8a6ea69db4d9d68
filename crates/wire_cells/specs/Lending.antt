-- What a place at home is once the cell that it lent is given back.
use Rattle.std.specs.Prelude.{Option, Some}
use Rattle.std.specs.Borrow.{Lends, MutBor, Fml}
use Rattle.std.specs.contracts.option.Option.{the_row as option}
use Rattle.wire_cells.specs.Cells.{CellView}
use Rattle.wire_cells.specs.contracts.cell.WireCell.{the_row}

-- the place ends with the cell that is last behind the reference
abbrev pub LendsCell : MutBor (Option CellView) → MutBor CellView → Fml
LendsCell place lent = Lends (option the_row) the_row place lent (λ cell. Some cell)
