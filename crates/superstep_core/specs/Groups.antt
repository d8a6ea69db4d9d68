-- Groups of nodes that make their half steps together. A wire with both ends in one group is an inner wire; all others cross.
use Rattle.std.specs.Prelude.{◌≡◌, ◌<◌, ℕ, map, length, slice_get, slice_index, Some}
use Rattle.hume_net.specs.declared.plan.Plan.{Plan}
use Rattle.hume_net.specs.Plan.{wires_of, producer_of, consumer_of}
use Rattle.superstep_core.specs.declared.grouping.Grouping.{Grouping}

-- the group of a node
abbrev pub group_of : Grouping → ℕ → ℕ
group_of g node = slice_index g.group node

-- Both ends of the wire lie in one group.
abbrev pub IsInner : Plan → Grouping → ℕ → Type 0
IsInner plan g wire = group_of g (producer_of plan wire) ≡ group_of g (consumer_of plan wire)

-- Each node has one of the groups, and the list of crossing wires has exactly these, each once.
pub record IsGrouping (plan : Plan) (g : Grouping) : Type 0 where
  pub long : length g.group ≡ plan.nodes
  pub groups : (n : ℕ) → n < plan.nodes → group_of g n < g.count
  pub crosses : (place w : ℕ) → slice_get g.crossing place ≡ Some w → (w < wires_of plan) × (IsInner plan g w → ⊥)
  pub all : (w : ℕ) → w < wires_of plan → (IsInner plan g w → ⊥) → (place : ℕ) × (slice_get g.crossing place ≡ Some w)
  pub once : (j k w : ℕ) → slice_get g.crossing j ≡ Some w → slice_get g.crossing k ≡ Some w → j ≡ k

-- the plan whose nodes are the groups and whose wires are the crossing ones, numbered by their places in the list
abbrev pub quotient : Plan → Grouping → Plan
quotient plan g = record {
  nodes = g.count;
  producer = map (λ w. group_of g (producer_of plan w)) g.crossing;
  consumer = map (λ w. group_of g (consumer_of plan w)) g.crossing;
}

-- the times of nodes whose groups have these times
abbrev pub times_by : Grouping → (ℕ → ℕ) → ℕ → ℕ
times_by g times node = times (group_of g node)
