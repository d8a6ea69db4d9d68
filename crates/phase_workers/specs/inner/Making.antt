-- The cells of a net before its first superstep.
use Rattle.std.specs.Prelude.{◌≡◌, ◌<◌, ℕ, List, [], ◌∷◌, length, Option, None, Some, slice_get}
use Rattle.hume_model.specs.declared.core_tree.NodeC.{NodeC}
use Rattle.hume_model.specs.declared.core_tree.NodeC.TheVariants.{Rules, From, To}
use Rattle.hume_model.specs.declared.core_tree.WireC.{WireC}
use Rattle.hume_model.specs.declared.core_tree.Core.{Core}
use Rattle.hume_net.specs.Start.{start, no_values}
use Rattle.box_costs.specs.Costs.{nothing}
use Rattle.box_code.specs.declared.program.BoxProgram.{BoxProgram}
use Rattle.wire_cells.specs.Cells.{CellView, first_cell}
use Rattle.box_step.specs.declared.nodes.cell.BoxCell.{BoxCell}
use Rattle.box_step.specs.nodes.Beginnings.{first_queue, first_log}
use Rattle.box_step.specs.nodes.Openings.{Opening}
use Rattle.box_step.specs.nodes.Right.{IsRightNode}

-- what the first round opens with
abbrev pub first_opening : Core → ℕ → Opening
first_opening core span = record {
  core = core;
  state = start core (no_values core);
  peaks = λ n. nothing;
  queues = λ n. first_queue core n span;
  logs = λ n. first_log core n span;
}

-- The next of the programs that are left is the one of the node, if it is a box; a stream has none.
abbrev pub IsNextProgram : NodeC → List BoxProgram → List BoxProgram → Option BoxProgram → Type 0
IsNextProgram (Rules b) old new None = old ≡ []
IsNextProgram (Rules b) old new (Some program) = old ≡ program ∷ new
IsNextProgram (From stream) old new program = (program ≡ None) × (new ≡ old)
IsNextProgram (To stream) old new program = (program ≡ None) × (new ≡ old)

-- the cell is the first one of the node
pub record IsFirstNode (core : Core) (span n : ℕ) (cell : BoxCell) : Type 0 where
  pub number : cell.number ≡ n
  pub time : cell.time ≡ 0
  pub right : IsRightNode (first_opening core span) n 0 cell.kind

-- so are these cells of the first nodes
pub record AreFirstNodes (core : Core) (span count : ℕ) (nodes : List BoxCell) : Type 0 where
  pub long : length nodes ≡ count
  pub each : (n : ℕ) (cell : BoxCell) → slice_get nodes n ≡ Some cell → IsFirstNode core span n cell

-- the cells of the first wires hold what these begin with
pub record AreFirstWires (core : Core) (count : ℕ) (home : List (Option CellView)) : Type 0 where
  pub long : length home ≡ count
  pub each : (w : ℕ) (wire : WireC) → w < count → slice_get core.wires w ≡ Some wire → slice_get home w ≡ Some (Some (first_cell core w wire))
