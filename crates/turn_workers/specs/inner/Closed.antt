-- Groups and wires that came back from a closed locker.
use Rattle.std.specs.Prelude.{◌≡◌, ◌+◌, ◌<◌, ℕ, List, length, Option, Some, slice_get}
use Rattle.hume_net.specs.declared.plan.Plan.{Plan}
use Rattle.hume_net.specs.Plan.{producer_of, wires_of}
use Rattle.superstep_core.specs.declared.grouping.Grouping.{Grouping}
use Rattle.superstep_core.specs.Groups.{group_of, IsInner}
use Rattle.wire_cells.specs.Cells.{CellView}
use Rattle.box_step.specs.nodes.Openings.{Opening}
use Rattle.turn_workers.specs.declared.cells.Group.{Group}
use Rattle.turn_workers.specs.Items.{IsGroupRight, IsWireRight}

-- each group is at its number, right, and at the time of a clock
pub record AreGroupsBack (opened : Opening → Type 0) (plan : Plan) (g : Grouping) (steps : ℕ) (clock : ℕ → ℕ) (groups : List Group) : Type 0 where
  pub count : length groups ≡ g.count
  pub number : (i : ℕ) (group : Group) → slice_get groups i ≡ Some group → group.number ≡ i
  pub time : (i : ℕ) (group : Group) → slice_get groups i ≡ Some group → group.time ≡ clock i
  pub right : (i : ℕ) (group : Group) → slice_get groups i ≡ Some group → IsGroupRight opened plan g steps group

-- the cell of a crossing wire is at home, right, and at the time of the clock
pub record IsWireBack (opened : Opening → Type 0) (plan : Plan) (g : Grouping) (steps : ℕ) (clock : ℕ → ℕ)
    (home : List (Option CellView)) (c w : ℕ) : Type 0 where
  pub cell : CellView
  pub there : slice_get home w ≡ Some (Some cell)
  pub number : cell.number ≡ w
  pub time : cell.time ≡ clock (g.count + c)
  pub right : IsWireRight opened plan g steps cell (g.count + c)

-- All wires are at home: crossing ones, and inner ones from their groups.
pub record AreWiresBack (opened : Opening → Type 0) (plan : Plan) (g : Grouping) (steps : ℕ) (clock : ℕ → ℕ)
    (groups : List Group) (home : List (Option CellView)) : Type 0 where
  pub long : length home ≡ wires_of plan
  pub crossing : (c w : ℕ) → slice_get g.crossing c ≡ Some w → IsWireBack opened plan g steps clock home c w
  pub inner : (w : ℕ) (group : Group) → w < wires_of plan → IsInner plan g w → slice_get groups (group_of g (producer_of plan w)) ≡ Some group
      → slice_get home w ≡ slice_get group.home.items w
