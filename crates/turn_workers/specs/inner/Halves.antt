-- A group on its way through the half steps of its members.
use Rattle.std.specs.Prelude.{◌≡◌, ℕ, ◌+◌, ◌<◌, ◌≤◌, List, Option, Some, slice_get}
use Rattle.hume_net.specs.declared.plan.Plan.{Plan}
use Rattle.hume_net.specs.Plan.{wires_of}
use Rattle.hume_net.specs.Times.{mover}
use Rattle.superstep_core.specs.declared.grouping.Grouping.{Grouping}
use Rattle.wire_cells.specs.Cells.{CellView}
use Rattle.wire_cells.specs.Homes.{AreApart}
use Rattle.box_step.specs.nodes.Openings.{Opening}
use Rattle.box_step.specs.nodes.Right.{IsRightNode}
use Rattle.box_step.specs.declared.nodes.cell.BoxCell.{BoxCell}
use Rattle.step_turns.specs.Homes.{AreRightHome, IsHome}
use Rattle.turn_workers.specs.Items.{IsGroup}
use Rattle.turn_workers.specs.Members.{numbers_of}

-- The first k members have made the half step of a time, and the others are at that time. The wires that a member moves at that time are
-- at home, one half step later where it has made its half step. All are right.
pub record IsMidway (opened : Opening → Type 0) (plan : Plan) (time k : ℕ) (numbers : List ℕ) (members : List BoxCell)
    (home : List (Option CellView)) : Type 0 where
  pub same : numbers_of members ≡ numbers
  pub apart : AreApart numbers
  pub are_nodes : (j n : ℕ) → slice_get numbers j ≡ Some n → n < plan.nodes
  pub behind : (j : ℕ) (cell : BoxCell) → slice_get members j ≡ Some cell → j < k → cell.time ≡ time + 1
  pub ahead : (j : ℕ) (cell : BoxCell) → slice_get members j ≡ Some cell → k ≤ j → cell.time ≡ time
  pub nodes : (j : ℕ) (cell : BoxCell) → slice_get members j ≡ Some cell → (opening : Opening) → opened opening
      → IsRightNode opening cell.number cell.time cell.kind
  pub moved : (w j : ℕ) → w < wires_of plan → slice_get numbers j ≡ Some (mover plan time w) → j < k → IsHome w (time + 1) home
  pub unmoved : (w j : ℕ) → w < wires_of plan → slice_get numbers j ≡ Some (mover plan time w) → k ≤ j → IsHome w time home
  pub wires : (opening : Opening) → opened opening → AreRightHome opening home

-- A group that is right, with the cells of the first k wires of its side at home too, at the group's time.
pub record IsHeld (opened : Opening → Type 0) (plan : Plan) (g : Grouping) (steps : ℕ) (side : List ℕ) (k number time : ℕ) (members : List BoxCell)
    (home : List (Option CellView)) : Type 0 where
  pub group : IsGroup opened plan g steps number time members home
  pub claimed : (j c w : ℕ) → j < k → slice_get side j ≡ Some c → slice_get g.crossing c ≡ Some w → IsHome w time home
