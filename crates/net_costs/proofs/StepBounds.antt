-- Steps and peaks keep the bounds of boxes.
use Rattle.std.proofs.Common.{◌≡◌, ℕ, Bool, true, false, List, [], ◌∷◌, map, Some, slice_get, sym, subst, cond, arith}
use Rattle.std.specs.List.{range_with_len}
use Rattle.std.specs.Option.{is_some}
use Rattle.hume_base.specs.declared.types.Value.{Value}
use Rattle.hume_model.specs.declared.core_tree.BoxC.{BoxC}
use Rattle.hume_model.specs.declared.core_tree.NodeC.TheVariants.{Rules}
use Rattle.hume_model.specs.declared.core_tree.Core.{Core}
use Rattle.hume_net.specs.declared.state.State.{State}
use Rattle.hume_net.specs.HalfSteps.{oldest}
use Rattle.hume_net.specs.Lockstep.{lockstep}
use Rattle.hume_net.specs.Sides.{inputs, part_of}
use Rattle.hume_net.specs.Start.{start}
use Rattle.hume_net.specs.StateTyping.{IsTypedNet, IsTypedState, InitialsAreTyped, ComingAreTyped}
use Rattle.hume_net.proofs.AtTimes.{types_after}
use Rattle.hume_net.proofs.StateTypes.{inputs_typed}
use Rattle.hume_net.proofs.StartTypes.{lockstep_typed}
use Rattle.box_costs.specs.declared.cost.Cost.{Cost}
use Rattle.box_costs.specs.Costs.{any_of, nothing, IsAtMost}
use Rattle.box_costs.specs.Bounds.{box_bound}
use Rattle.box_costs.specs.ResultSpending.{box_spent}
use Rattle.box_costs.proofs.CostSteps.{nothing_most}
use Rattle.box_costs.proofs.Rules.{box_within}
use Rattle.net_costs.specs.Steps.{node_step_spent, step_spent, peaks}

either_way : (idle : Bool) (spent bound : Cost) → IsAtMost spent bound → IsAtMost (cond idle nothing spent) bound
either_way true spent bound within = nothing_most bound
either_way false spent bound within = within

pub step_within : (core : Core) → IsTypedNet core → (state : State) → IsTypedState core state → (n : ℕ) (b : BoxC) → slice_get core.nodes n ≡ Some (Rules b)
    → IsAtMost (step_spent core state n) (box_bound core b)
step_within core net state typed n b is =
    let seen = map oldest (inputs core state n (Rules b)) in
    subst (λ o. IsAtMost (node_step_spent core state n o) (box_bound core b)) (sym is)
    (either_way (is_some (part_of state n).pending) (box_spent core b (part_of state n).order seen) (box_bound core b)
    (box_within core net.sound b (net.boxes n b is) seen (inputs_typed core net state typed n b is) (part_of state n).order))

pub lockstep_within : (core : Core) → IsTypedNet core → InitialsAreTyped core → (coming : List (List Value)) → ComingAreTyped core coming
    → (k n : ℕ) (b : BoxC) → slice_get core.nodes n ≡ Some (Rules b) → IsAtMost (step_spent core (lockstep core (start core coming) k) n) (box_bound core b)
lockstep_within core net initials coming typed k n b is =
    step_within core net (lockstep core (start core coming) k) (lockstep_typed core net initials coming typed k) n b is

-- one of several, each of which is within a bound
several_within : {A : Type 0} (cost : A → Cost) (bound : Cost) → ((x : A) → IsAtMost (cost x) bound) → (xs : List A) → IsAtMost (any_of (map cost xs)) bound
several_within cost bound each [] = nothing_most bound
several_within cost bound each (x ∷ xs) =
    let here = each x in
    let later = several_within cost bound each xs in
    record { heap = omega (arith, here.heap, later.heap); stack = omega (arith, here.stack, later.stack); work = omega (arith, here.work, later.work) }

-- peaks from any state whose values are of their types
pub typed_peaks_within : (core : Core) → IsTypedNet core → (state : State) → IsTypedState core state
    → (steps n : ℕ) (b : BoxC) → slice_get core.nodes n ≡ Some (Rules b) → IsAtMost (peaks core state steps n) (box_bound core b)
typed_peaks_within core net state typed steps n b is =
    several_within (λ k. step_spent core (lockstep core state k) n) (box_bound core b)
    (λ k. step_within core net (lockstep core state k) (types_after core net state typed k) n b is) (range_with_len 0 steps)

pub peaks_within : (core : Core) → IsTypedNet core → InitialsAreTyped core → (coming : List (List Value)) → ComingAreTyped core coming
    → (steps n : ℕ) (b : BoxC) → slice_get core.nodes n ≡ Some (Rules b) → IsAtMost (peaks core (start core coming) steps n) (box_bound core b)
peaks_within core net initials coming typed steps n b is =
    several_within (λ k. step_spent core (lockstep core (start core coming) k) n) (box_bound core b) (λ k. lockstep_within core net initials coming typed k n b is)
    (range_with_len 0 steps)
