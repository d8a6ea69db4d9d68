-- What is left in cells once each position but a `*` has dropped the oldest value, if one is there.
use Rattle.std.specs.Prelude.{List, [], ◌∷◌, drop}
use Rattle.hume_model.specs.declared.core_tree.InPat.{InPat}
use Rattle.hume_model.specs.declared.core_tree.InPat.TheVariants.{Star}
use Rattle.wire_cells.specs.Cells.{CellView}

abbrev pub consumed_at : InPat → CellView → CellView
consumed_at Star cell = cell
consumed_at _ cell = record cell { values = drop 1 cell.values }

abbrev pub consumed : List InPat → List CellView → List CellView
consumed pats [] = []
consumed [] (cell ∷ cells) = cell ∷ cells
consumed (pat ∷ pats) (cell ∷ cells) = consumed_at pat cell ∷ consumed pats cells
