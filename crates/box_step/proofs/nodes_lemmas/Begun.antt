-- What is right after some supersteps is right at time 0 for the opening to which they lead.
use Rattle.std.proofs.Common.{◌≡◌, ◌/◌, ◌%◌, ℕ, map, refl, ap, sym, ◌∙◌, subst, arith}
use Rattle.hume_base.specs.Flat.{flat}
use Rattle.hume_model.specs.declared.core_tree.Core.{Core}
use Rattle.hume_net.specs.declared.state.Part.{Part}
use Rattle.hume_net.specs.declared.state.State.{State}
use Rattle.hume_net.specs.Lockstep.{lockstep, at_time, node_at, executes}
use Rattle.hume_net.specs.Sides.{part_of}
use Rattle.hume_net.proofs.Times.{even_state}
use Rattle.net_costs.specs.Steps.{peaks}
use Rattle.box_step.specs.Boxes.{IsBoxAt}
use Rattle.box_step.specs.declared.nodes.cell.Kind.{Kind}
use Rattle.box_step.specs.declared.nodes.cell.Kind.TheVariants.{Coded, Queued, Logged}
use Rattle.box_step.specs.nodes.Openings.{Opening, opening_after}
use Rattle.box_step.specs.nodes.Sides.{brought_type, taken_type}
use Rattle.box_step.specs.nodes.Right.{IsRightNode, most_taken}

pub first_state : (core : Core) (s : State) → at_time core s 0 ≡ s
unfolding lockstep
first_state core s = refl

module _ (opening : Opening) (time : ℕ) (even : time % 2 ≡ 0) where
  abbrev after : Opening
  after = opening_after opening (time / 2)

  same_state : at_time opening.core opening.state time ≡ at_time after.core after.state 0
  same_state = even_state opening.core opening.state time even ∙ sym (first_state opening.core after.state)

  begun_part : (n : ℕ) → node_at opening.core opening.state n time ≡ node_at after.core after.state n 0
  begun_part n = ap (λ s. part_of s n) same_state

  begun_count : executes time ≡ time / 2
  begun_count = omega (arith, even)

  heap_begun : (n : ℕ) → (most_taken opening n time).heap ≡ (most_taken after n 0).heap
  heap_begun n =
      let count = ap (λ k. (peaks opening.core opening.state k n).heap) begun_count in
      omega (arith, count)

  stack_begun : (n : ℕ) → (most_taken opening n time).stack ≡ (most_taken after n 0).stack
  stack_begun n =
      let count = ap (λ k. (peaks opening.core opening.state k n).stack) begun_count in
      omega (arith, count)

  pub begun_node : (n : ℕ) (kind : Kind) → IsRightNode opening n time kind → IsRightNode after n 0 kind
  begun_node n (Coded box) right = record {
    b = right.b;
    there = right.there;
    at = subst (λ part. IsBoxAt opening.core right.b part box.value) (begun_part n) right.at;
    heap = right.heap ∙ heap_begun n;
    stack = right.stack ∙ stack_begun n;
  }
  begun_node n (Queued queue) right = record {
    stream = right.stream;
    there = right.there;
    values = right.values ∙ ap (λ (part : Part). map (flat opening.core.types (brought_type opening.core n)) part.coming) (begun_part n);
    rest = right.rest;
  }
  begun_node n (Logged log) right = record {
    stream = right.stream;
    there = right.there;
    values = right.values ∙ ap (λ (part : Part). map (flat opening.core.types (taken_type opening.core n)) part.taken) (begun_part n);
    width = right.width;
    rest = right.rest;
  }
