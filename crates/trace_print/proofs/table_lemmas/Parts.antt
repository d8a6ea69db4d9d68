-- The words that the first nodes may take together.
use Rattle.std.proofs.Common.{◌≡◌, ℕ, zero, suc, ◌+◌, ◌<◌, ◌≤◌, ◌^◌, List, [], ◌∷◌, map, take, length, Option, Some, None, slice_get, option_map, refl, ap, sym, ◌∙◌, arith}
use Rattle.std.specs.List.{sum}
use Rattle.hume_base.specs.declared.limits.TheConstants.{MAX_SPACE_WORDS}
use Rattle.hume_base.specs.Least.{IsLeast}
use Rattle.hume_model.specs.declared.core_tree.NodeC.{NodeC}
use Rattle.hume_model.specs.declared.core_tree.Core.{Core}
use Rattle.box_costs.specs.declared.cost.Cost.{Cost}
use Rattle.box_costs.specs.CostRules.{node_bound, space_of, BreaksCosts}
use Rattle.space_costs.specs.NodeCosts.{AreCosts}
use Rattle.trace_print.proofs.table_lemmas.Sums.{sum_step, sum_below, sum_all}
use Rattle.trace_print.proofs.table_lemmas.Bounds.{item_at, space_within}

-- the same of a list and of a list that it maps to
mapped_get : {A B : Type 0} (f : A → B) (xs : List A) (n : ℕ) (x : A) → slice_get xs n ≡ Some x → slice_get (map f xs) n ≡ Some (f x)
mapped_get f [] n x there = cc
mapped_get f (y ∷ ys) zero x there = let same : y ≡ x = cc in ap (λ z. Some (f z)) same
mapped_get f (y ∷ ys) (suc n) x there = mapped_get f ys n x there

-- the cost at a place is the node's bound
pub cost_there : (core : Core) (costs : List Cost) → AreCosts core costs → (n : ℕ) (node : NodeC) → slice_get core.nodes n ≡ Some node → slice_get costs n ≡ Some (node_bound core node)
cost_there core costs are n node there = ap (λ cs. slice_get cs n) are ∙ mapped_get (node_bound core) core.nodes n node there

module _ (part : Cost → ℕ) (core : Core) where
  -- what the first nodes may take of a part together
  abbrev pub part_before : ℕ → ℕ
  part_before n = sum (map (λ node. part (node_bound core node)) (take n core.nodes))

  -- a part of the cost at a place is read
  pub part_read : (costs : List Cost) → AreCosts core costs → (n told : ℕ) (node : NodeC) → slice_get core.nodes n ≡ Some node → option_map part (slice_get costs n) ≡ Some told
      → part (node_bound core node) ≡ told
  part_read costs are n told node there read =
      let is : ◌≡◌ {A = Option ℕ} (Some (part (node_bound core node))) (Some told) = sym (ap (option_map part) (cost_there core costs are n node there)) ∙ read in cc

  pub part_step : (n next : ℕ) (node : NodeC) → slice_get core.nodes n ≡ Some node → next ≡ n + 1 → part_before next ≡ part_before n + part (node_bound core node)
  part_step n next node there is =
      let more : next ≡ suc n = omega (arith, is) in
      ap part_before more ∙ sum_step (λ node. part (node_bound core node)) core.nodes n node there

  pub part_all : (n : ℕ) → length core.nodes ≤ n → part_before n ≡ sum (map (λ node. part (node_bound core node)) core.nodes)
  part_all n past = sum_all (λ node. part (node_bound core node)) core.nodes n past

  -- it never passes a number of 32 bits
  pub part_small : IsLeast (BreaksCosts core) None → ((cost : Cost) → part cost ≤ space_of cost) → (n : ℕ) → n ≤ length core.nodes → part_before n ≤ MAX_SPACE_WORDS
  part_small fine less n within =
      let all = space_within core fine n within in
      let below = sum_below (λ node. part (node_bound core node)) (λ node. space_of (node_bound core node)) (λ node. less (node_bound core node)) (take n core.nodes) in
      omega (arith, all, below)

  -- one more node's part is added
  pub part_more : (costs : List Cost) → AreCosts core costs → (n told total : ℕ) → n < length core.nodes → option_map part (slice_get costs n) ≡ Some told → total ≡ part_before n
      → total + told ≡ part_before (n + 1)
  part_more costs are n told total less read is =
      let node = item_at core.nodes n less in
      let here = part_read costs are n told node.0 node.1 read in
      let step = part_step n (n + 1) node.0 node.1 refl in
      omega (arith, is, here, step)

  pub part_fits : (costs : List Cost) → AreCosts core costs → IsLeast (BreaksCosts core) None → ((cost : Cost) → part cost ≤ space_of cost) → (n told total : ℕ) → n < length core.nodes
      → option_map part (slice_get costs n) ≡ Some told → total ≡ part_before n → total + told < 2 ^ 32
  part_fits costs are fine below n told total less read is =
      let more = part_more costs are n told total less read is in
      let small = part_small fine below (n + 1) (omega (arith, less)) in
      omega (arith, more, small)

pub heap_below : (cost : Cost) → cost.heap ≤ space_of cost
heap_below cost = omega arith

pub stack_below : (cost : Cost) → cost.stack ≤ space_of cost
stack_below cost = omega arith
