-- What the half step of a node may rest on, for an opening.
use Rattle.std.specs.Prelude.{◌≡◌, ◌<◌, ◌%◌, ◌^◌, ℕ, zero, suc, List, Option, None, Some, slice_get}
use Rattle.hume_model.specs.declared.core_tree.Core.{Core}
use Rattle.wire_cells.specs.Cells.{CellView}
use Rattle.box_step.specs.nodes.Openings.{Opening, IsOpeningOf}
use Rattle.box_step.specs.nodes.Sides.{AreInputs, AreOutputs}
use Rattle.box_step.specs.nodes.Right.{AreRightWires}

-- a node may make its execute step over these cells
pub record CanExecute (opening : Opening) (bare : Core) (n time : ℕ) (cells : List CellView) : Type 0 where
  pub even : time % 2 ≡ 0
  pub opens : IsOpeningOf bare opening
  pub side : AreInputs bare n time cells
  pub wires : AreRightWires opening cells

-- a node may make its super step over these cells
pub record CanAssert (opening : Opening) (bare : Core) (n time : ℕ) (cells : List CellView) : Type 0 where
  pub odd : time % 2 ≡ 1
  pub opens : IsOpeningOf bare opening
  pub side : AreOutputs bare n time cells
  pub wires : AreRightWires opening cells

-- the next row of a queue is the only output of an input stream, at place 0
abbrev pub next_row : List (List ℕ) → ℕ → Option (List ℕ)
next_row rows zero = slice_get rows 0
next_row rows (suc place) = None

-- each cell may go on by one half step
abbrev pub AreEarly : List CellView → Type 0
AreEarly cells = (place : ℕ) (cell : CellView) → slice_get cells place ≡ Some cell → cell.time < 2 ^ 40
