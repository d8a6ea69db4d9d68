-- Which node each wire comes from, and which it leads to.
use Rattle.std.specs.Prelude.{◌≡◌, ◌<◌, ℕ, map, length, slice_index}
use Rattle.hume_model.specs.declared.core_tree.Core.{Core}
use Rattle.hume_net.specs.declared.plan.Plan.{Plan}

-- the plan of a core's net
abbrev pub plan_of : Core → Plan
plan_of core = record {
  nodes = length core.nodes;
  producer = map (λ wire. wire.from) core.wires;
  consumer = map (λ wire. wire.to) core.wires;
}

-- how many wires a plan has; they are numbered from 0
abbrev pub wires_of : Plan → ℕ
wires_of plan = length plan.producer

-- the node that a wire comes from
abbrev pub producer_of : Plan → ℕ → ℕ
producer_of plan wire = slice_index plan.producer wire

-- the node that a wire leads to
abbrev pub consumer_of : Plan → ℕ → ℕ
consumer_of plan wire = slice_index plan.consumer wire

-- each wire comes from a node and leads to one
pub record IsPlan (plan : Plan) : Type 0 where
  pub both_ends : length plan.consumer ≡ length plan.producer
  pub producers : (w : ℕ) → w < wires_of plan → producer_of plan w < plan.nodes
  pub consumers : (w : ℕ) → w < wires_of plan → consumer_of plan w < plan.nodes
