-- The items of a plan, the lists of items that a seat holds, and the lists of wires that it has passed. A held item stands in a
-- list with the time at which it is held, and a passed wire with the node for which it was passed.
use Rattle.std.specs.Prelude.{◌≡◌, ℕ, ⊤, Bool, false, ◌&&◌, ◌||◌, ◌+◌, ◌==◌, List, [], ◌∷◌, if◌then◌else◌}
use mathlib.Core.Option.{Option, none, some}
use Rattle.hume_net.specs.declared.plan.Plan.{Plan}
use Rattle.hume_net.specs.Plan.{wires_of}

-- the items are the nodes by their numbers, and then the wires, numbered from the number of nodes on
abbrev pub items_of : Plan → ℕ
items_of plan = plan.nodes + wires_of plan

-- the time at which an item is held
abbrev pub held_at : ℕ → List (ℕ × ℕ) → Option ℕ
held_at item [] = none
held_at item (h ∷ hs) = if h.0 == item then some h.1 else held_at item hs

-- the other items that are held
abbrev pub without : ℕ → List (ℕ × ℕ) → List (ℕ × ℕ)
without item [] = []
without item (h ∷ hs) = if h.0 == item then without item hs else h ∷ without item hs

-- whether the wire was passed for the node
abbrev pub has_pair : ℕ → ℕ → List (ℕ × ℕ) → Bool
has_pair node wire [] = false
has_pair node wire (q ∷ qs) = ((q.0 == node) && (q.1 == wire)) || has_pair node wire qs

-- the pairs of other nodes
abbrev pub pairs_but : ℕ → List (ℕ × ℕ) → List (ℕ × ℕ)
pairs_but node [] = []
pairs_but node (q ∷ qs) = if q.0 == node then pairs_but node qs else q ∷ pairs_but node qs

-- no pair stands in the list twice
abbrev pub AreDistinct : List (ℕ × ℕ) → Type 0
AreDistinct [] = ⊤
AreDistinct (q ∷ qs) = (has_pair q.0 q.1 qs ≡ false) × AreDistinct qs
