-- How far an order is found, and what is known of the nodes that have no number.
use Rattle.std.specs.Prelude.{◌≡◌, ◌↔◌, ◌⊎◌, ℕ, ◌+◌, ◌<◌, ◌≤◌, Bool, true, false, List, [], length, slice_index_or, Contains, if◌then◌else◌}
use Rattle.std.specs.List.{All, sum_by}
use Rattle.check_tables.specs.graph.Cycles.{LeadsTo}
use Rattle.check_tables.specs.graph.Orders.{IsNumbering}
use Rattle.check_tables.specs.declared.graph.numbering.Progress.{Progress}

-- the place has a mark
abbrev pub Hit : List Bool → ℕ → Type 0
Hit marks c = slice_index_or marks c false ≡ true

-- the places from one on and below another are among the first `count` and have marks
abbrev pub AllHit : List Bool → ℕ → ℕ → ℕ → Type 0
AllHit marks count from end = (k : ℕ) → from ≤ k → k < end → (k < count) × Hit marks k

-- how many places have none
abbrev pub unmarked : List Bool → ℕ
unmarked marks = sum_by (λ mark. if mark then 0 else 1) marks

-- the first edges of a node, so many of them, lead to marked nodes
abbrev pub FrontMarked : ℕ → List Bool → List ℕ → ℕ → Type 0
FrontMarked count marks row front = (k : ℕ) → k < front → k < length row → slice_index_or row k 0 < count → Hit marks (slice_index_or row k 0)

-- a place of a row that has a node without a mark
pub record IsWait (count : ℕ) (marks : List Bool) (row : List ℕ) (k : ℕ) : Type 0 where
  pub within : k < length row
  pub inside : slice_index_or row k 0 < count
  pub off : slice_index_or marks (slice_index_or row k 0) false ≡ false

-- what a node waits for has a mark
pub record IsFree (marks : List Bool) (waits : List ℕ) (a : ℕ) : Type 0 where
  pub within : a < length waits
  pub marked : Hit marks (slice_index_or waits a 0)

-- the marks are of the nodes that have numbers; a node without one waits for a node that it leads to or for a marked place
pub record IsProgress (graph : List (List ℕ)) (p : Progress) : Type 0 where
  pub numbering : IsNumbering graph p.order
  pub marks_long : length p.marks ≡ length graph + 2
  pub waits_long : length p.waits ≡ length graph
  pub fronts_long : length p.fronts ≡ length graph
  pub marked : (c : ℕ) → c < length graph → Hit p.marks c ↔ Contains p.order c
  pub inside : All (λ b. b < length graph + 2) p.waits
  pub waiting : (a : ℕ) → a < length graph → Contains p.order a ⊎ (Hit p.marks (slice_index_or p.waits a 0) ⊎ LeadsTo graph a (slice_index_or p.waits a 0))
  pub fronts : (a : ℕ) → a < length graph → FrontMarked (length graph) p.marks (slice_index_or graph a []) (slice_index_or p.fronts a 0)
  pub passed : (a : ℕ) → a < p.passed → Contains p.order a
