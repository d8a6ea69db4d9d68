-- The items of a closed locker, by their numbers.
use Rattle.std.specs.Prelude.{◌≡◌, ℕ, ◌-◌, List, map, Some, slice_get}
use Rattle.hume_net.specs.declared.plan.Plan.{Plan}
use Rattle.superstep_core.specs.declared.grouping.Grouping.{Grouping}
use Rattle.box_step.specs.nodes.Openings.{Opening}
use Rattle.turn_workers.specs.Items.{IsRight, number_in}
use Rattle.turn_workers.specs.declared.cells.Group.{Group as AGroup}
use Rattle.turn_workers.specs.declared.cells.NetCell.{NetCell}
use Rattle.turn_workers.specs.declared.cells.NetCell.TheVariants.{Group}
use Rattle.turn_workers.specs.declared.items.Item.{Item}

-- the cells of items
abbrev pub cells_of : {P : Type 0} → List (Item P) → List NetCell
cells_of {P} items = map (λ (item : Item P). item.cell) items

-- the cell of this number, which is right
pub record IsItemAt (opened : Opening → Type 0) (plan : Plan) (g : Grouping) (steps item : ℕ) (cell : NetCell) : Type 0 where
  pub number : number_in cell ≡ item
  pub right : IsRight opened plan g steps cell

pub record AreItems (opened : Opening → Type 0) (plan : Plan) (g : Grouping) (steps : ℕ) (cells : List NetCell) : Type 0 where
  pub each : (item : ℕ) (cell : NetCell) → slice_get cells item ≡ Some cell → IsItemAt opened plan g steps item cell

-- the groups are those of the first items, the last one first
pub record AreGroupsOff (count : ℕ) (cells : List NetCell) (groups : List AGroup) : Type 0 where
  pub each : (k : ℕ) (group : AGroup) → slice_get groups k ≡ Some group → slice_get cells (count - 1 - k) ≡ Some (Group group)
