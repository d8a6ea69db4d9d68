-- Only output streams take values, and only input streams assert those that come.
use Rattle.std.proofs.Common.{◌≡◌, ℕ, zero, suc, Bool, true, false, if◌then◌else◌, List, [], ◌∷◌, map, Option, Some, None, slice_get, refl, ap, sym, ◌∙◌, subst}
use Rattle.std.specs.Option.{is_some}
use Rattle.hume_base.specs.declared.types.Value.{Value}
use Rattle.hume_model.specs.declared.core_tree.BoxC.{BoxC}
use Rattle.hume_model.specs.declared.core_tree.NodeC.{NodeC}
use Rattle.hume_model.specs.declared.core_tree.NodeC.TheVariants.{Rules, From, To}
use Rattle.hume_model.specs.declared.core_tree.Core.{Core}
use Rattle.hume_model.specs.declared.outcome.Firing.{Firing}
use Rattle.hume_model.specs.Firing.{fire}
use Rattle.hume_net.specs.declared.state.Part.{Part}
use Rattle.hume_net.specs.declared.state.State.{State}
use Rattle.hume_net.specs.declared.state.HalfStep.{HalfStep}
use Rattle.hume_net.specs.HalfSteps.{execute, super_step, fired, idle, assert_pending, assert_next, have_room, with_asserted, oldest}
use Rattle.hume_net.specs.Sides.{part_of, inputs, outputs, rooms, executed_at, stepped_at}
use Rattle.hume_net.specs.Lockstep.{mid, up, superstep, lockstep}
use Rattle.hume_net.specs.Nodes.{IsInput, IsOutput, IsInputStream, IsOutputStream}
use Rattle.hume_net.proofs.Gathered.{mid_part, up_part}
use Rattle.hume_net.proofs.rounds_lemmas.Streaming.{mid_coming, pending_coming}

-- what is taken

fired_taken : (b : BoxC) (part : Part) (wires : List (List Value)) (firing : Option Firing) → (fired b part wires firing).part.taken ≡ part.taken
fired_taken b part wires None = refl
fired_taken b part wires (Some firing) = refl

busy_taken : (busy : Bool) (b : BoxC) (part : Part) (wires : List (List Value)) (firing : Option Firing)
    → (if busy then idle part wires else fired b part wires firing).part.taken ≡ part.taken
busy_taken true b part wires firing = refl
busy_taken false b part wires firing = fired_taken b part wires firing

execute_taken : (core : Core) (node : NodeC) (part : Part) (wires : List (List Value)) → (IsOutput (Some node) → ⊥)
    → (execute core node part wires).part.taken ≡ part.taken
execute_taken core (Rules b) part wires other = busy_taken (is_some part.pending) b part wires (fire core b part.order (map oldest wires))
execute_taken core (From stream) part wires other = refl
execute_taken core (To stream) part wires other = absurd (other tt)

asserted_taken : (room : Bool) (before next : Part) (values : List (Option Value)) (wires : List (List Value)) → next.taken ≡ before.taken
    → (if room then (let half : HalfStep = record { part = next; side = with_asserted values wires } in half) else idle before wires).part.taken ≡ before.taken
asserted_taken true before next values wires same = same
asserted_taken false before next values wires same = refl

pending_taken : (part : Part) (rooms : List Bool) (wires : List (List Value)) (pending : Option (List (Option Value)))
    → (assert_pending part rooms wires pending).part.taken ≡ part.taken
pending_taken part rooms wires None = refl
pending_taken part rooms wires (Some values) = asserted_taken (have_room values rooms) part (record part { pending = None }) values wires refl

next_taken : (part : Part) (rooms : List Bool) (wires : List (List Value)) (coming : List Value) → (assert_next part rooms wires coming).part.taken ≡ part.taken
next_taken part rooms wires [] = refl
next_taken part rooms wires (v ∷ later) = asserted_taken (have_room (Some v ∷ []) rooms) part (record part { coming = later }) (Some v ∷ []) wires refl

super_taken : (node : NodeC) (part : Part) (rooms : List Bool) (wires : List (List Value)) → (super_step node part rooms wires).part.taken ≡ part.taken
super_taken (Rules b) part rooms wires = pending_taken part rooms wires part.pending
super_taken (From stream) part rooms wires = next_taken part rooms wires part.coming
super_taken (To stream) part rooms wires = refl

-- what comes

super_coming : (node : NodeC) (part : Part) (rooms : List Bool) (wires : List (List Value)) → (IsInput (Some node) → ⊥)
    → (super_step node part rooms wires).part.coming ≡ part.coming
super_coming (Rules b) part rooms wires other = pending_coming part rooms wires part.pending
super_coming (From stream) part rooms wires other = absurd (other tt)
super_coming (To stream) part rooms wires other = refl

module _ (core : Core) (n : ℕ) (node : NodeC) (is : slice_get core.nodes n ≡ Some node) where
  mid_taken : (s : State) → (IsOutputStream core n → ⊥) → (part_of (mid core s) n).taken ≡ (part_of s n).taken
  mid_taken s other =
      ap (λ (p : Part). p.taken) (mid_part core s n node is)
      ∙ ap (λ o. (executed_at core s n o).part.taken) is
      ∙ execute_taken core node (part_of s n) (inputs core s n node) (λ output. other (subst IsOutput (sym is) output))

  up_taken : (s : State) → (part_of (up core s) n).taken ≡ (part_of s n).taken
  up_taken s =
      ap (λ (p : Part). p.taken) (up_part core s n node is)
      ∙ ap (λ o. (stepped_at core s n o).part.taken) is
      ∙ super_taken node (part_of s n) (rooms core s n node) (outputs core s n node)

  up_coming : (s : State) → (IsInputStream core n → ⊥) → (part_of (up core s) n).coming ≡ (part_of s n).coming
  up_coming s other =
      ap (λ (p : Part). p.coming) (up_part core s n node is)
      ∙ ap (λ o. (stepped_at core s n o).part.coming) is
      ∙ super_coming node (part_of s n) (rooms core s n node) (outputs core s n node) (λ input. other (subst IsInput (sym is) input))

  pub others_take_nothing : (s : State) (k : ℕ) → (IsOutputStream core n → ⊥) → (part_of (lockstep core s k) n).taken ≡ (part_of s n).taken
  unfolding lockstep superstep
  others_take_nothing s zero other = refl
  others_take_nothing s (suc k) other = up_taken (mid core (lockstep core s k)) ∙ mid_taken (lockstep core s k) other ∙ others_take_nothing s k other

  pub others_assert_nothing : (s : State) (k : ℕ) → (IsInputStream core n → ⊥) → (part_of (lockstep core s k) n).coming ≡ (part_of s n).coming
  unfolding lockstep superstep
  others_assert_nothing s zero other = refl
  others_assert_nothing s (suc k) other =
      up_coming (mid core (lockstep core s k)) other ∙ mid_coming core (lockstep core s k) n node is ∙ others_assert_nothing s k other
