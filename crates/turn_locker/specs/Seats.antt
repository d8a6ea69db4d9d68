-- A locker as contracts see it, and its seats.
use Rattle.std.specs.Prelude.{◌≡◌, ℕ, ◌<◌, List, [], ◌∷◌, Option, Some, None}
use mathlib.Core.Option.{some}
use Rattle.atomic_table.specs.Seated.{TableId}
use Rattle.atomic_table.specs.declared.shared.Seat.{Seat}
use Rattle.hume_net.specs.declared.plan.Plan.{Plan}
use Rattle.turn_locker.specs.declared.view.View.{View}
use Rattle.turn_locker.specs.Held.{held_at}

-- a locker has a plan, and a table that no other locker has
pub record LockerView : Type 0 where
  pub plan : Plan
  pub table : TableId

module _ {T : Type 0} where
  -- what the seat knows
  abbrev pub view_of : Seat (Option T) View → View
  view_of seat = seat.me.0

  -- the slots that are out with a seat, all empty
  abbrev pub outs_of : Option ℕ → List (ℕ × Option T)
  outs_of None = []
  outs_of (Some item) = (item, None) ∷ []

  -- A seat of the locker that is not spent. The slot that may be out with it is that of an item that it holds.
  pub record IsSeatOf (locker : LockerView) (seat : Seat (Option T) View) : Type 0 where
    pub table : seat.table_id ≡ locker.table
    pub plan : (view_of seat).plan ≡ locker.plan
    pub share : 0 < (view_of seat).share
    pub out_held : (item : ℕ) → (view_of seat).out ≡ Some item → (time : ℕ) × (held_at item (view_of seat).held ≡ some time)
    pub slots : seat.me.1 ≡ outs_of (view_of seat).out
