-- The peaks of a round of a piece are those of the whole run.
use Rattle.std.proofs.Common.{◌≡◌, ℕ, zero, suc, ◌+◌, max, cond, List, map, Some, slice_get, refl, ap, sym, ◌∙◌, subst, arith}
use Rattle.std.specs.Option.{is_some}
use Rattle.hume_base.specs.declared.types.Value.{Value}
use Rattle.hume_model.specs.declared.core_tree.NodeC.{NodeC}
use Rattle.hume_model.specs.declared.core_tree.NodeC.TheVariants.{Rules, From, To}
use Rattle.hume_model.specs.declared.core_tree.Core.{Core}
use Rattle.hume_net.specs.declared.state.State.{State}
use Rattle.hume_net.specs.HalfSteps.{oldest}
use Rattle.hume_net.specs.Lockstep.{lockstep}
use Rattle.hume_net.specs.Sides.{inputs}
use Rattle.hume_net.specs.rounds.Pieces.{IsFilled, IsPieceOf}
use Rattle.hume_net.proofs.rounds_lemmas.PieceSteps.{filled_less, lockstep_piece}
use Rattle.box_costs.specs.declared.cost.Cost.{Cost}
use Rattle.box_costs.specs.Costs.{either, nothing}
use Rattle.box_costs.specs.ResultSpending.{box_spent}
use Rattle.net_costs.specs.Steps.{node_step_spent, peaks, step_spent}
use Rattle.net_costs.proofs.Peaks.{next_peak, later_peak}
use Rattle.net_costs.proofs.Spent.{same_spent}

module _ (core : Core) (earlier later : ℕ → List Value) where
  module _ (piece whole : State) (it : IsPieceOf core earlier later piece whole) (n : ℕ) (node : NodeC) (is : slice_get core.nodes n ≡ Some node) where
    -- the piece with the wires of the whole
    abbrev wired : State
    wired = record piece { wires = whole.wires }

    own_wires : step_spent core piece n ≡ step_spent core wired n
    own_wires = same_spent core piece wired n refl (λ w wire found to. sym (it.wires w wire found))

    by_node : (o : NodeC) → slice_get core.nodes n ≡ Some o → node_step_spent core wired n (Some o) ≡ node_step_spent core whole n (Some o)
    by_node (Rules b) there =
        sym (ap (λ part. cond (is_some part.pending) nothing (box_spent core b part.order (map oldest (inputs core whole n (Rules b))))) (it.parts n (Rules b) there))
    by_node (From stream) there = refl
    by_node (To stream) there = refl

    -- an execute step of the piece takes what that of the whole takes
    pub spent_alike : step_spent core piece n ≡ step_spent core whole n
    spent_alike = own_wires ∙ ap (node_step_spent core wired n) is ∙ by_node node is ∙ ap (node_step_spent core whole n) (sym is)

  module _ (piece whole : State) (it : IsPieceOf core earlier later piece whole) (n : ℕ) (node : NodeC) (is : slice_get core.nodes n ≡ Some node) where
    pub peaks_alike : (k : ℕ) → IsFilled core k later piece → peaks core piece k n ≡ peaks core whole k n
    peaks_alike zero filled = refl
    peaks_alike (suc k) filled =
        let next : suc k ≡ k + 1 = omega arith in
        let all : IsFilled core (k + 1) later piece = subst (λ count. IsFilled core count later piece) next filled in
        let less : IsFilled core k later piece = filled_less core earlier later k 1 piece all in
        let step : step_spent core (lockstep core piece k) n ≡ step_spent core (lockstep core whole k) n =
        spent_alike (lockstep core piece k) (lockstep core whole k) (lockstep_piece core earlier later k piece whole less it) n node is in
        ap (λ count. peaks core piece count n) next ∙ next_peak core piece n k
        ∙ ap (λ (first : Cost). either first (step_spent core (lockstep core piece k) n)) (peaks_alike k less)
        ∙ ap (λ (last : Cost). either (peaks core whole k n) last) step
        ∙ sym (next_peak core whole n k) ∙ ap (λ count. peaks core whole count n) (sym next)

-- the peaks of the first supersteps and of more
pub peaks_together : (core : Core) (first : State) (j k total n : ℕ) (heap old : ℕ) (part : Cost → ℕ) → j + k ≡ total
    → ((x y : Cost) → part (either x y) ≡ max (part x) (part y))
    → old ≡ part (peaks core first j n) → heap ≡ max old (part (peaks core (lockstep core first j) k n)) → heap ≡ part (peaks core first total n)
peaks_together core first j k total n heap old part all greatest was now =
    now ∙ ap (λ a. max a (part (peaks core (lockstep core first j) k n))) was
    ∙ sym (greatest (peaks core first j n) (peaks core (lockstep core first j) k n))
    ∙ ap part (sym (later_peak core first n j k))
    ∙ ap (λ steps. part (peaks core first steps n)) all
