-- The rule of the table: what holds of its words, of the values at home and of all views between any two steps. The word of an item
-- is twice its time, and 1 more while a seat holds it.
use Rattle.std.specs.Prelude.{◌≡◌, ℕ, Bool, true, false, ◌&&◌, ◌+◌, ◌*◌, ◌%◌, ◌<◌, ◌≤◌, ◌==◌, List, [], length, slice_index, Option, Some, None}
use mathlib.Core.Option.{none, some}
use mathlib.Core.Option as maybe
use lib.ListN.{get_elem?}
use Rattle.atomic_table.specs.Table.{State}
use Rattle.hume_net.specs.declared.plan.Plan.{Plan}
use Rattle.hume_net.specs.Lockstep.{executes, supers}
use Rattle.hume_net.specs.Plan.{wires_of, producer_of, consumer_of, IsPlan}
use Rattle.hume_net.specs.Times.{IsOfSide}
use Rattle.turn_locker.specs.declared.view.View.{View}
use Rattle.turn_locker.specs.Held.{items_of, held_at, has_pair, AreDistinct}
use Rattle.turn_locker.specs.Views.{total_share, passed_by, whole_share}

-- the words of an item at home and of a held one
abbrev pub home_word : ℕ → ℕ
home_word time = 2 * time

abbrev pub held_word : ℕ → ℕ
held_word time = 2 * time + 1

-- Where an item is: at home with its value, or held by the seat of a number, at a time.
pub data Whereabouts (T : Type 0) : Type 0 where
  home : T → Whereabouts T
  held : ℕ → ℕ → Whereabouts T

-- the item's time
abbrev pub clock_of : {T : Type 0} → (T → ℕ) → Whereabouts T → ℕ
clock_of time_of (home value) = time_of value
clock_of time_of (held seat time) = time

-- whether the slot of an item is out with the seat that holds it
abbrev pub is_out : Option ℕ → ℕ → Bool
is_out None item = false
is_out (Some out) item = out == item

-- the slot of a held item: it is out, or at home and empty
abbrev pub held_slot : {T : Type 0} → Bool → maybe.Option (Option T)
held_slot true = none
held_slot false = some None

-- A half step of the node is under way: its seat has passed the wire for it, and holds the node. The wire is of the node's side at its
-- time, and the seat holds at this time each wire of that side that it hasn't passed.
pub record IsUnderWay (plan : Plan) (holds passed : List (ℕ × ℕ)) (node wire : ℕ) : Type 0 where
  pub time : ℕ
  pub is_node : node < plan.nodes
  pub node_held : held_at node holds ≡ some time
  pub of_side : IsOfSide plan time node wire
  pub others_held : (w : ℕ) → IsOfSide plan time node w → has_pair node w passed ≡ false → held_at (plan.nodes + w) holds ≡ some time

-- so it is for each pair of a seat
abbrev pub AreUnderWay : Plan → List (ℕ × ℕ) → List (ℕ × ℕ) → Type 0
AreUnderWay plan holds passed = (node wire : ℕ) → has_pair node wire passed ≡ true → IsUnderWay plan holds passed node wire

-- The view of a seat. A spent seat, with no share, has nothing. What a seat holds no other seat holds, since each item is in one place.
pub record IsSeated {T : Type 0} (plan : Plan) (where_is : ℕ → Whereabouts T) (seat : ℕ) (v : View) : Type 0 where
  pub plans : 0 < v.share → v.plan ≡ plan
  pub spent : v.share ≡ 0 → (v.held ≡ []) × (v.passed ≡ [])
  pub holds : (item time : ℕ) → held_at item v.held ≡ some time → (item < items_of plan) × (where_is item ≡ held seat time)
  pub pairs : AreUnderWay plan v.held v.passed
  pub distinct : AreDistinct v.passed

abbrev pub tick : Bool → ℕ
tick true = 1
tick false = 0

-- how often a consumer has executed, and a producer asserted, where one that has passed the wire for its half step counts as having done so
abbrev pub executed : ℕ → Bool → ℕ
executed time passed = executes time + tick ((time % 2 == 0) && passed)

abbrev pub asserted : ℕ → Bool → ℕ
asserted time passed = supers time + tick ((time % 2 == 1) && passed)

-- The time of a wire, by the times of its consumer and of its producer and by which of them has passed it. The consumer is ahead of the
-- producer by one at most.
pub record IsTied (wire consumer producer : ℕ) (consumer_passed producer_passed : Bool) : Type 0 where
  pub time : wire ≡ executed consumer consumer_passed + asserted producer producer_passed
  pub not_behind : asserted producer producer_passed ≤ executed consumer consumer_passed
  pub not_ahead : executed consumer consumer_passed ≤ asserted producer producer_passed + 1

-- so it is on each wire, where the items have these times
abbrev pub AreTied : Plan → (ℕ → ℕ) → (ℕ → ℕ → Bool) → Type 0
AreTied plan clock passed = (w : ℕ) → w < wires_of plan
    → IsTied (clock (plan.nodes + w)) (clock (consumer_of plan w)) (clock (producer_of plan w)) (passed (consumer_of plan w) w) (passed (producer_of plan w) w)

module _ {T : Type 0} (number_of time_of : T → ℕ) (right : T → Type 0) where
  -- An item at home has its value, which is right, and the word of its time. One that is held has the word of the time at which a seat
  -- holds it, and no value at home.
  abbrev pub IsThere : State (Option T) View → ℕ → Whereabouts T → Type 0
  IsThere s item (home value) = (slice_index s.words item ≡ home_word (time_of value)) × (get_elem? s.homes item ≡ some (some (Some value)))
      × (number_of value ≡ item) × right value
  IsThere s item (held seat time) = (slice_index s.words item ≡ held_word time)
      × ((v : View) × (get_elem? s.views seat ≡ some v) × (held_at item v.held ≡ some time) × (get_elem? s.homes item ≡ some (held_slot (is_out v.out item))))

  -- The rule: each item is at home or held, each seat's view is true, the shares add up, and the times of all items fit together.
  pub record KeepsTurns (plan : Plan) (s : State (Option T) View) : Type 0 where
    pub where_is : ℕ → Whereabouts T
    pub planned : IsPlan plan
    pub words_are : length s.words ≡ items_of plan
    pub homes_are : length s.homes ≡ items_of plan
    pub shares : total_share s.views ≡ whole_share
    pub each_item : (item : ℕ) → item < items_of plan → IsThere s item (where_is item)
    pub each_seat : (seat : ℕ) (v : View) → get_elem? s.views seat ≡ some v → IsSeated plan where_is seat v
    pub times : AreTied plan (λ item. clock_of time_of (where_is item)) (passed_by s.views)
