-- What a seat knows, and what its steps make of that.
use Rattle.std.specs.Prelude.{◌≡◌, ℕ, zero, suc, Bool, false, ◌||◌, nat_lt, ◌+◌, ◌-◌, List, [], ◌∷◌, None, Some, if◌then◌else◌}
use Rattle.hume_net.specs.declared.plan.Plan.{Plan}
use Rattle.hume_net.specs.Times.{mover}
use Rattle.turn_locker.specs.declared.view.View.{View}
use Rattle.turn_locker.specs.Held.{items_of, without, has_pair, pairs_but}

-- all shares together
abbrev pub whole_share : ℕ
whole_share = 65536

abbrev pub total_share : List View → ℕ
total_share [] = 0
total_share (v ∷ vs) = v.share + total_share vs

-- whether one of the seats has passed the wire for the node
abbrev pub passed_by : List View → ℕ → ℕ → Bool
passed_by [] node wire = false
passed_by (v ∷ vs) node wire = has_pair node wire v.passed || passed_by vs node wire

-- no half step of this seat is under way
abbrev pub HoldsNothing : View → Type 0
HoldsNothing v = (v.held ≡ []) × (v.passed ≡ [])

-- all items below a number, each held at time 0
abbrev pub held_at_first : ℕ → List (ℕ × ℕ)
held_at_first zero = []
held_at_first (suc item) = (item, 0) ∷ held_at_first item

-- the seat of a new locker: it holds all items, and none has a value yet
abbrev pub newcomer : Plan → View
newcomer plan = record { plan = plan; share = whole_share; held = held_at_first (items_of plan); passed = []; out = None; seen = None }

-- the seat has looked at the item and found this word
abbrev pub looks : ℕ → ℕ → View → View
looks item word v = record v { out = None; seen = Some (item, word) }

-- the seat holds the item, which it claimed at this time
abbrev pub claims : ℕ → ℕ → View → View
claims item time v = record v { held = (item, time) ∷ v.held; out = Some item; seen = None }

-- the seat has put the item back
abbrev pub puts_back : ℕ → View → View
puts_back item v = record v { held = without item v.held; out = None; seen = None }

-- A wire that is passed makes a pair with the node that moves it at the time at which it was held. A node that is passed goes with its
-- pairs: its half step is made.
abbrev pub passed_with : Plan → ℕ → ℕ → List (ℕ × ℕ) → List (ℕ × ℕ)
passed_with plan item time pairs =
    if nat_lt item plan.nodes then pairs_but item pairs else (mover plan time (item - plan.nodes), item - plan.nodes) ∷ pairs

-- the seat has passed the item, which it held at this time
abbrev pub passes : Plan → ℕ → ℕ → View → View
passes plan item time v = record v { held = without item v.held; passed = passed_with plan item time v.passed; out = None; seen = None }

-- a split gives the new seat a share of one
abbrev pub kept_share : View → View
kept_share v = record v { share = v.share - 1 }

abbrev pub new_share : View → View
new_share v = record { plan = v.plan; share = 1; held = []; passed = []; out = None; seen = None }

-- a join adds the shares
abbrev pub both_shares : View → View → View
both_shares v w = record v { share = v.share + w.share }

-- the view of a seat that was joined to another
abbrev pub spent : View
spent = record { plan = record { nodes = 0; producer = []; consumer = [] }; share = 0; held = []; passed = []; out = None; seen = None }
