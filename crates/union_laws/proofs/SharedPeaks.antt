-- The nodes of a program that stands in a larger one take in each step what they take alone.
use Rattle.std.proofs.Common.{◌≡◌, ℕ, ◌+◌, ◌<◌, if◌then◌else◌, List, length, map, Some, slice_get, refl, ap, sym, ◌∙◌, arith}
use Rattle.std.specs.List.{range_with_len}
use Rattle.std.specs.Option.{is_some}
use Rattle.std.proofs.lemmas.List.{length-map}
use Rattle.hume_base.specs.declared.types.Value.{Value}
use Rattle.hume_model.specs.declared.core_tree.BoxC.{BoxC}
use Rattle.hume_model.specs.declared.core_tree.NodeC.{NodeC}
use Rattle.hume_model.specs.declared.core_tree.NodeC.TheVariants.{Rules, From, To}
use Rattle.hume_model.specs.declared.core_tree.Core.{Core}
use Rattle.hume_net.specs.declared.state.Part.{Part}
use Rattle.hume_net.specs.declared.state.State.{State}
use Rattle.hume_net.specs.HalfSteps.{oldest}
use Rattle.hume_net.specs.Lockstep.{lockstep}
use Rattle.hume_net.specs.Sides.{inputs, part_of}
use Rattle.box_costs.specs.declared.cost.Cost.{Cost}
use Rattle.box_costs.specs.Costs.{any_of, nothing}
use Rattle.box_costs.specs.ResultSpending.{box_spent}
use Rattle.net_costs.specs.Steps.{node_step_spent, peaks, step_spent}
use Rattle.union_laws.specs.declared.moves.Moves.{Moves}
use Rattle.union_laws.specs.Moving.{moved_box, moved_node, moved_port}
use Rattle.union_laws.specs.Shares.{left, right}
use Rattle.union_laws.specs.Union.{behind, united}
use Rattle.union_laws.proofs.MovedCalls.{there_is}
use Rattle.union_laws.proofs.MovedResultSpending.{box_spends}
use Rattle.union_laws.proofs.MovedSpending.{moved_spends}
use Rattle.union_laws.proofs.SharedNets.{IsShare, RunsAlone, StandsIn, ins_same, lockstep_share}
use Rattle.union_laws.proofs.Unions.{left_share, left_stands, right_share, right_stands}
use Rattle.union_laws.proofs.Unmoved.{unmoved}

module _ (moves : Moves) (first : ℕ) (small large : Core) (alone : RunsAlone small) (stands : StandsIn moves first small large) where
  module _ (s t : State) (share : IsShare moves first small s t) where
    box_same : (n : ℕ) → n < length small.nodes → (b : BoxC) → slice_get small.nodes n ≡ Some (Rules b) → (part : Part) (wires : List (List Value))
        → (if is_some part.pending then nothing else box_spent large (moved_box moves b) part.order (map oldest wires))
        ≡ (if is_some part.pending then nothing else box_spent small b part.order (map oldest wires))
    box_same n within b at part wires =
        ap (λ (c : Cost). if is_some part.pending then nothing else c)
        (box_spends moves (length small.funs) small large (moved_spends moves small large alone.calls stands.funs) b (alone.boxes n b at) (map oldest wires) part.order)

    node_same : (n : ℕ) → n < length small.nodes → (node : NodeC) → slice_get small.nodes n ≡ Some node
        → node_step_spent large s (moves.nodes + n) (Some (moved_node moves node)) ≡ node_step_spent small t n (Some node)
    node_same n within (Rules b) at =
        (λ i. if is_some (share.parts n within i).pending then nothing
        else box_spent large (moved_box moves b) (share.parts n within i).order
        (map oldest (ins_same moves first small large alone stands s t share n within (length (map (moved_port moves) b.ins)) (length b.ins) (length-map b.ins (moved_port moves)) i)))
        ∙ box_same n within b at (part_of t n) (inputs small t n (Rules b))
    node_same n within (From stream) at = refl
    node_same n within (To stream) at = refl

    step_same : (n : ℕ) → n < length small.nodes → step_spent large s (moves.nodes + n) ≡ step_spent small t n
    step_same n within =
        let at = there_is small.nodes n within in
        ap (node_step_spent large s (moves.nodes + n)) (stands.nodes n at.0 at.1) ∙ node_same n within at.0 at.1 ∙ ap (node_step_spent small t n) (sym at.1)

  pub peaks_same : (s t : State) → IsShare moves first small s t → (steps n : ℕ) → n < length small.nodes → peaks large s steps (moves.nodes + n) ≡ peaks small t steps n
  peaks_same s t share steps n within =
      λ i. any_of (map (λ k. step_same (lockstep large s k) (lockstep small t k) (lockstep_share moves first small large alone stands s t share k) n within i) (range_with_len 0 steps))

pub left_peaks : (a b : Core) → RunsAlone a → (s : State) (steps n : ℕ) → n < length a.nodes → peaks (united a b) s steps n ≡ peaks a (left a s) steps n
left_peaks a b alone s steps n within =
    let at : 0 + n ≡ n = omega arith in
    ap (peaks (united a b) s steps) (sym at) ∙ peaks_same unmoved 0 a (united a b) alone (left_stands a b alone) s (left a s) (left_share a s) steps n within

pub right_peaks : (a b : Core) → RunsAlone a → RunsAlone b → (s : State) (steps n : ℕ) → n < length b.nodes
    → peaks (united a b) s steps (length a.nodes + n) ≡ peaks b (right a s) steps n
right_peaks a b first alone s steps n within =
    peaks_same (behind a) (length a.wires) b (united a b) alone (right_stands a b first) s (right a s) (right_share a b s) steps n within
