-- What is seen of cells of nodes, and cells that are right for what is seen of them.
use Rattle.std.proofs.Common.{◌≡◌, ◌+◌, ◌*◌, ◌/◌, ℕ, max, List, [], ◌∷◌, map, Option, None, Some, slice_get, slice_index_or, refl, ap, sym, ◌∙◌, subst, arith}
use Rattle.std.specs.List.{range_with_len}
use Rattle.hume_model.specs.declared.core_tree.NodeC.{NodeC}
use Rattle.hume_model.specs.declared.core_tree.NodeC.TheVariants.{Rules, From, To}
use Rattle.hume_model.specs.declared.core_tree.StreamC.{StreamC}
use Rattle.hume_model.specs.declared.core_tree.Core.{Core}
use Rattle.hume_net.specs.declared.state.State.{State}
use Rattle.hume_net.specs.Lockstep.{lockstep}
use Rattle.box_costs.specs.declared.cost.Cost.{Cost}
use Rattle.box_costs.specs.Costs.{any_of, either, nothing}
use Rattle.net_costs.specs.Steps.{node_step_spent, peaks, step_spent}
use Rattle.hume_streams.specs.Queues.{first_view}
use Rattle.box_step.specs.declared.nodes.cell.Kind.{Kind}
use Rattle.box_step.specs.declared.nodes.cell.Kind.TheVariants.{Coded, Queued, Logged}
use Rattle.box_step.specs.declared.nodes.cell.BoxCell.{BoxCell}
use Rattle.box_step.specs.nodes.Lends.{queue_in, log_in}
use Rattle.box_step.specs.nodes.Openings.{Opening}
use Rattle.box_step.specs.nodes.Right.{IsRightNode, heap_peak_of, stack_peak_of}
use Rattle.phase_workers.specs.inner.Whole.{queue_without, log_without, queues_of, logs_of, heaps_of, stacks_of, opening_at}
use Rattle.phase_workers.proofs.Indexes.{index_mapped}

-- at time 0 nothing was taken since
abbrev pub IsSeenAt : List BoxCell → ℕ → Kind → Type 0
IsSeenAt nodes n kind =
    (slice_index_or (heaps_of nodes) n 0 ≡ heap_peak_of kind) × (slice_index_or (stacks_of nodes) n 0 ≡ stack_peak_of kind)
    × (slice_index_or (queues_of nodes) n (first_view 0 0) ≡ queue_without (queue_in kind))
    × (slice_index_or (logs_of nodes) n (log_without None) ≡ log_without (log_in kind))

pub seen_at : (nodes : List BoxCell) (n : ℕ) (cell : BoxCell) → slice_get nodes n ≡ Some cell → IsSeenAt nodes n cell.kind
seen_at nodes n cell at = (
  index_mapped (λ (c : BoxCell). heap_peak_of c.kind) nodes n cell 0 at,
  index_mapped (λ (c : BoxCell). stack_peak_of c.kind) nodes n cell 0 at,
  index_mapped (λ (c : BoxCell). queue_without (queue_in c.kind)) nodes n cell (first_view 0 0) at,
  index_mapped (λ (c : BoxCell). log_without (log_in c.kind)) nodes n cell (log_without None) at,
)

-- what is right at time 0 for some opening is so for what is seen
pub right_as_seen : (opening : Opening) (nodes : List BoxCell) (n : ℕ) (kind : Kind) → IsSeenAt nodes n kind → IsRightNode opening n 0 kind
    → IsRightNode (opening_at opening.core opening.state nodes) n 0 kind
right_as_seen opening nodes n (Coded box) seen right = record {
  b = right.b;
  there = right.there;
  at = right.at;
  heap = (let own = seen.0 in omega (arith, own));
  stack = (let own = seen.1 in omega (arith, own));
}
right_as_seen opening nodes n (Queued queue) seen right = record {
  stream = right.stream;
  there = right.there;
  values = right.values;
  rest = sym seen.2;
}
right_as_seen opening nodes n (Logged log) seen right = record {
  stream = right.stream;
  there = right.there;
  values = right.values;
  width = right.width;
  rest = sym seen.3;
}

-- which kind of cell a node has

module _ (opening : Opening) (n time : ℕ) where
  pub queued : (kind : Kind) (stream : StreamC) → slice_get opening.core.nodes n ≡ Some (From stream) → IsRightNode opening n time kind
      → (queue : _) × (kind ≡ Queued queue)
  queued (Coded box) stream at right = (let both : Some (From stream) ≡ Some (Rules right.b) = sym at ∙ right.there in cc)
  queued (Queued queue) stream at right = (queue, refl)
  queued (Logged log) stream at right = (let both : Some (From stream) ≡ Some (To right.stream) = sym at ∙ right.there in cc)

  pub logged : (kind : Kind) (stream : StreamC) → slice_get opening.core.nodes n ≡ Some (To stream) → IsRightNode opening n time kind
      → (log : _) × (kind ≡ Logged log)
  logged (Coded box) stream at right = (let both : Some (To stream) ≡ Some (Rules right.b) = sym at ∙ right.there in cc)
  logged (Queued queue) stream at right = (let both : Some (To stream) ≡ Some (From right.stream) = sym at ∙ right.there in cc)
  logged (Logged log) stream at right = (log, refl)

-- Two cells that are right for a node are of one kind, with the same queue or log but for the values.
module _ (opening : Opening) (n early late : ℕ) where
  pub same_queue : (old new : Kind) → opening.queues n ≡ queue_without (queue_in old) → IsRightNode opening n early old → IsRightNode opening n late new
      → queue_without (queue_in new) ≡ queue_without (queue_in old)
  same_queue old (Queued queue) seen before after = after.rest ∙ seen
  same_queue (Coded box) (Coded new) seen before after = refl
  same_queue (Queued queue) (Coded new) seen before after =
      (let both : Some (From before.stream) ≡ Some (Rules after.b) = sym before.there ∙ after.there in cc)
  same_queue (Logged log) (Coded new) seen before after = refl
  same_queue (Coded box) (Logged new) seen before after = refl
  same_queue (Queued queue) (Logged new) seen before after =
      (let both : Some (From before.stream) ≡ Some (To after.stream) = sym before.there ∙ after.there in cc)
  same_queue (Logged log) (Logged new) seen before after = refl

  pub same_log : (old new : Kind) → opening.logs n ≡ log_without (log_in old) → IsRightNode opening n early old → IsRightNode opening n late new
      → log_without (log_in new) ≡ log_without (log_in old)
  same_log old (Logged log) seen before after = after.rest ∙ seen
  same_log (Coded box) (Coded new) seen before after = refl
  same_log (Logged log) (Coded new) seen before after =
      (let both : Some (To before.stream) ≡ Some (Rules after.b) = sym before.there ∙ after.there in cc)
  same_log (Queued queue) (Coded new) seen before after = refl
  same_log (Coded box) (Queued new) seen before after = refl
  same_log (Logged log) (Queued new) seen before after =
      (let both : Some (To before.stream) ≡ Some (From after.stream) = sym before.there ∙ after.there in cc)
  same_log (Queued queue) (Queued new) seen before after = refl

-- a stream takes nothing

none_of : (f : ℕ → Cost) → ((k : ℕ) → f k ≡ nothing) → (ks : List ℕ) → any_of (map f ks) ≡ nothing
none_of f each [] = refl
none_of f each (k ∷ ks) = ap (λ c. either c (any_of (map f ks))) (each k) ∙ ap (either nothing) (none_of f each ks)

-- the node is no box
abbrev pub IsNoBox : Option NodeC → Type 0
IsNoBox None = Unit {0}
IsNoBox (Some (Rules b)) = ⊥
IsNoBox (Some (From stream)) = Unit {0}
IsNoBox (Some (To stream)) = Unit {0}

spends_nothing : (core : Core) (state : State) (n : ℕ) (node : Option NodeC) → IsNoBox node → node_step_spent core state n node ≡ nothing
spends_nothing core state n None is = refl
spends_nothing core state n (Some (Rules b)) is = absurd is
spends_nothing core state n (Some (From stream)) is = refl
spends_nothing core state n (Some (To stream)) is = refl

pub no_peaks : (core : Core) (state : State) (steps n : ℕ) → IsNoBox (slice_get core.nodes n) → peaks core state steps n ≡ nothing
no_peaks core state steps n is =
    none_of (λ k. step_spent core (lockstep core state k) n) (λ k. spends_nothing core (lockstep core state k) n (slice_get core.nodes n) is)
    (range_with_len 0 steps)

-- the peaks after some supersteps
module _ (opening : Opening) (n steps : ℕ) where
  pub heap_after : (kind : Kind) → (IsNoBox (slice_get opening.core.nodes n) → (opening.peaks n).heap ≡ 0) → IsRightNode opening n (2 * steps) kind
      → heap_peak_of kind ≡ max (opening.peaks n).heap (peaks opening.core opening.state steps n).heap
  heap_after (Coded box) none right =
      let count : (2 * steps + 1) / 2 ≡ steps = omega arith in
      right.heap ∙ ap (λ k. max (opening.peaks n).heap (peaks opening.core opening.state k n).heap) count
  heap_after (Queued queue) none right =
      let is : IsNoBox (slice_get opening.core.nodes n) = subst IsNoBox (sym right.there) tt in
      sym (ap (λ (c : Cost). max (opening.peaks n).heap c.heap) (no_peaks opening.core opening.state steps n is) ∙ ap (λ k. max k 0) (none is))
  heap_after (Logged log) none right =
      let is : IsNoBox (slice_get opening.core.nodes n) = subst IsNoBox (sym right.there) tt in
      sym (ap (λ (c : Cost). max (opening.peaks n).heap c.heap) (no_peaks opening.core opening.state steps n is) ∙ ap (λ k. max k 0) (none is))

  pub stack_after : (kind : Kind) → (IsNoBox (slice_get opening.core.nodes n) → (opening.peaks n).stack ≡ 0) → IsRightNode opening n (2 * steps) kind
      → stack_peak_of kind ≡ max (opening.peaks n).stack (peaks opening.core opening.state steps n).stack
  stack_after (Coded box) none right =
      let count : (2 * steps + 1) / 2 ≡ steps = omega arith in
      right.stack ∙ ap (λ k. max (opening.peaks n).stack (peaks opening.core opening.state k n).stack) count
  stack_after (Queued queue) none right =
      let is : IsNoBox (slice_get opening.core.nodes n) = subst IsNoBox (sym right.there) tt in
      sym (ap (λ (c : Cost). max (opening.peaks n).stack c.stack) (no_peaks opening.core opening.state steps n is) ∙ ap (λ k. max k 0) (none is))
  stack_after (Logged log) none right =
      let is : IsNoBox (slice_get opening.core.nodes n) = subst IsNoBox (sym right.there) tt in
      sym (ap (λ (c : Cost). max (opening.peaks n).stack c.stack) (no_peaks opening.core opening.state steps n is) ∙ ap (λ k. max k 0) (none is))

-- a cell of a stream has no peaks
pub no_heap : (opening : Opening) (n time : ℕ) (kind : Kind) → IsRightNode opening n time kind → IsNoBox (slice_get opening.core.nodes n)
    → (heap_peak_of kind ≡ 0) × (stack_peak_of kind ≡ 0)
no_heap opening n time (Coded box) right none = absurd (subst IsNoBox right.there none)
no_heap opening n time (Queued queue) right none = (refl, refl)
no_heap opening n time (Logged log) right none = (refl, refl)
