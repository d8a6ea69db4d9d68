-- Graphs and their cycles. Row a of a graph has the numbers of the nodes that node a leads to; what is no node's number counts for nothing.
use Rattle.std.specs.Prelude.{◌≡◌, ℕ, zero, suc, ◌<◌, List, [], length, slice_index_or, Contains}

-- the row of node a has the number of node b
pub record LeadsTo (graph : List (List ℕ)) (a b : ℕ) : Type 0 where
  pub within : b < length graph
  pub listed : Contains (slice_index_or graph a []) b

-- one comes from node a to node b by n steps
abbrev pub Chain : List (List ℕ) → ℕ → ℕ → ℕ → Type 0
Chain graph a b zero = a ≡ b
Chain graph a b (suc n) = (c : ℕ) × LeadsTo graph a c × Chain graph c b n

-- the node leads to itself, directly or through others
pub record InCycle (graph : List (List ℕ)) (a : ℕ) : Type 0 where
  pub others : ℕ
  pub chain : Chain graph a a (suc others)
