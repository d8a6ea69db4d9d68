-- In a superstep a node's values to come drop by one at most, and in many by one for each.
use Rattle.std.proofs.Common.{◌≡◌, ℕ, zero, suc, ◌+◌, ◌≤◌, Bool, true, false, if◌then◌else◌, List, [], ◌∷◌, ◌++◌, map, length, Option, Some, None, slice_get, refl, ap, sym, ◌∙◌, subst, arith, length-append}
use Rattle.std.proofs.lemmas.List.{append_assoc}
use Rattle.std.specs.Option.{is_some}
use Rattle.hume_base.specs.declared.types.Value.{Value}
use Rattle.hume_model.specs.declared.core_tree.BoxC.{BoxC}
use Rattle.hume_model.specs.declared.core_tree.NodeC.{NodeC}
use Rattle.hume_model.specs.declared.core_tree.NodeC.TheVariants.{Rules, From, To}
use Rattle.hume_model.specs.declared.core_tree.Core.{Core}
use Rattle.hume_model.specs.declared.outcome.Firing.{Firing}
use Rattle.hume_model.specs.Firing.{fire}
use Rattle.hume_net.specs.declared.state.Part.{Part}
use Rattle.hume_net.specs.declared.state.State.{State}
use Rattle.hume_net.specs.declared.state.HalfStep.{HalfStep}
use Rattle.hume_net.specs.HalfSteps.{execute, super_step, fired, idle, assert_pending, assert_next, have_room, with_asserted, oldest}
use Rattle.hume_net.specs.Sides.{part_of, inputs, outputs, rooms, executed_at, stepped_at}
use Rattle.hume_net.specs.Lockstep.{mid, up, superstep, lockstep}
use Rattle.hume_net.proofs.Gathered.{mid_part, up_part}

-- what is left of the values once at most so many of the first are gone
pub record Drops (count : ℕ) (before after : List Value) : Type 0 where
  pub gone : List Value
  pub all : before ≡ gone ++ after
  pub few : length gone ≤ count

none_drops : (count : ℕ) (before after : List Value) → after ≡ before → Drops count before after
none_drops count before after same = record { gone = []; all = sym same; few = omega arith }

fired_coming : (b : BoxC) (part : Part) (wires : List (List Value)) (firing : Option Firing) → (fired b part wires firing).part.coming ≡ part.coming
fired_coming b part wires None = refl
fired_coming b part wires (Some firing) = refl

busy_or_fired : (busy : Bool) (b : BoxC) (part : Part) (wires : List (List Value)) (firing : Option Firing)
    → (if busy then idle part wires else fired b part wires firing).part.coming ≡ part.coming
busy_or_fired true b part wires firing = refl
busy_or_fired false b part wires firing = fired_coming b part wires firing

execute_coming : (core : Core) (node : NodeC) (part : Part) (wires : List (List Value)) → (execute core node part wires).part.coming ≡ part.coming
execute_coming core (Rules b) part wires = busy_or_fired (is_some part.pending) b part wires (fire core b part.order (map oldest wires))
execute_coming core (From stream) part wires = refl
execute_coming core (To stream) part wires = refl

-- where values are asserted or not, what is to come is that of the one part or the other
module _ (Holds : List Value → Type 0) where
  either_coming : (room : Bool) (before next : Part) (values : List (Option Value)) (wires : List (List Value)) → Holds before.coming → Holds next.coming
      → Holds (if room then (let half : HalfStep = record { part = next; side = with_asserted values wires } in half) else idle before wires).part.coming
  either_coming true before next values wires b n = n
  either_coming false before next values wires b n = b

pub pending_coming : (part : Part) (rooms : List Bool) (wires : List (List Value)) (pending : Option (List (Option Value)))
    → (assert_pending part rooms wires pending).part.coming ≡ part.coming
pending_coming part rooms wires None = refl
pending_coming part rooms wires (Some values) =
    either_coming (λ coming. coming ≡ part.coming) (have_room values rooms) part (record part { pending = None }) values wires refl refl

next_drops : (part : Part) (rooms : List Bool) (wires : List (List Value)) (coming : List Value) → part.coming ≡ coming
    → Drops 1 part.coming (assert_next part rooms wires coming).part.coming
next_drops part rooms wires [] is = none_drops 1 part.coming part.coming refl
next_drops part rooms wires (v ∷ later) is =
    either_coming (Drops 1 part.coming) (have_room (Some v ∷ []) rooms) part (record part { coming = later }) (Some v ∷ []) wires
    (none_drops 1 part.coming part.coming refl)
    (record { gone = v ∷ []; all = is; few = omega arith })

super_drops : (node : NodeC) (part : Part) (rooms : List Bool) (wires : List (List Value)) → Drops 1 part.coming (super_step node part rooms wires).part.coming
super_drops (Rules b) part rooms wires = none_drops 1 _ _ (pending_coming part rooms wires part.pending)
super_drops (From stream) part rooms wires = next_drops part rooms wires part.coming refl
super_drops (To stream) part rooms wires = none_drops 1 part.coming part.coming refl

drops_further : (count more : ℕ) (before middle after : List Value) → Drops count before middle → Drops more middle after → Drops (count + more) before after
drops_further count more before middle after d e = record {
  gone = d.gone ++ e.gone;
  all = d.all ∙ ap (λ rest. d.gone ++ rest) e.all ∙ sym (append_assoc d.gone e.gone after);
  few = omega (arith, length-append d.gone e.gone, d.few, e.few);
}

module _ (core : Core) (s : State) (n : ℕ) (node : NodeC) (is : slice_get core.nodes n ≡ Some node) where
  pub mid_coming : (part_of (mid core s) n).coming ≡ (part_of s n).coming
  mid_coming =
      ap (λ (p : Part). p.coming) (mid_part core s n node is)
      ∙ ap (λ o. (executed_at core s n o).part.coming) is
      ∙ execute_coming core node (part_of s n) (inputs core s n node)

  up_drops : Drops 1 (part_of s n).coming (part_of (up core s) n).coming
  up_drops =
      subst (Drops 1 (part_of s n).coming) (sym (ap (λ (p : Part). p.coming) (up_part core s n node is) ∙ ap (λ o. (stepped_at core s n o).part.coming) is))
      (super_drops node (part_of s n) (rooms core s n node) (outputs core s n node))

superstep_drops : (core : Core) (s : State) (n : ℕ) (node : NodeC) → slice_get core.nodes n ≡ Some node
    → Drops 1 (part_of s n).coming (part_of (superstep core s) n).coming
unfolding superstep
superstep_drops core s n node is =
    subst (λ coming. Drops 1 coming (part_of (up core (mid core s)) n).coming) (mid_coming core s n node is) (up_drops core (mid core s) n node is)

pub lockstep_drops : (core : Core) (s : State) (k n : ℕ) (node : NodeC) → slice_get core.nodes n ≡ Some node
    → Drops k (part_of s n).coming (part_of (lockstep core s k) n).coming
unfolding lockstep
lockstep_drops core s zero n node is = none_drops 0 (part_of s n).coming (part_of s n).coming refl
lockstep_drops core s (suc k) n node is =
    let e : k + 1 ≡ suc k = omega arith in
    subst (λ count. Drops count (part_of s n).coming (part_of (superstep core (lockstep core s k)) n).coming) e
    (drops_further k 1 (part_of s n).coming (part_of (lockstep core s k) n).coming (part_of (superstep core (lockstep core s k)) n).coming
    (lockstep_drops core s k n node is) (superstep_drops core (lockstep core s k) n node is))
