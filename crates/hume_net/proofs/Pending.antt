-- What holds of each box's pending outputs, where it holds of what a box gives when it fires.
use Rattle.std.proofs.Common.{◌≡◌, ℕ, Bool, true, false, if◌then◌else◌, List, map, Option, Some, None, slice_get, refl, ap, sym, ◌∙◌, subst}
use Rattle.std.specs.Option.{is_some}
use Rattle.hume_base.specs.declared.types.Value.{Value}
use Rattle.hume_model.specs.declared.core_tree.BoxC.{BoxC}
use Rattle.hume_model.specs.declared.core_tree.NodeC.TheVariants.{Rules}
use Rattle.hume_model.specs.declared.core_tree.Core.{Core}
use Rattle.hume_model.specs.declared.outcome.Firing.{Firing}
use Rattle.hume_model.specs.Firing.{fire}
use Rattle.hume_net.specs.declared.state.State.{State}
use Rattle.hume_net.specs.declared.state.Part.{Part}
use Rattle.hume_net.specs.declared.state.HalfStep.{HalfStep}
use Rattle.hume_net.specs.HalfSteps.{oldest, fired, idle, with_asserted, assert_pending, have_room}
use Rattle.hume_net.specs.Sides.{part_of, inputs, outputs, rooms, executed_at, stepped_at}
use Rattle.hume_net.specs.Lockstep.{mid, up}
use Rattle.hume_net.proofs.Gathered.{mid_part, up_part}

module _ (core : Core) (s : State) (Holds : BoxC → List (Option Value) → Type 0) where
  abbrev pub PendingAre : Type 0
  PendingAre = (n : ℕ) (b : BoxC) (outs : List (Option Value)) → slice_get core.nodes n ≡ Some (Rules b) → (part_of s n).pending ≡ Some outs → Holds b outs

  abbrev pub FiringsAre : Type 0
  FiringsAre = (n : ℕ) (b : BoxC) → slice_get core.nodes n ≡ Some (Rules b) → (firing : Firing)
      → fire core b (part_of s n).order (map oldest (inputs core s n (Rules b))) ≡ Some firing → Holds b firing.outs

module _ (core : Core) (s : State) (Holds : BoxC → List (Option Value) → Type 0) (before : PendingAre core s Holds) where
  module _ (firings : FiringsAre core s Holds) (n : ℕ) (b : BoxC) (is_box : slice_get core.nodes n ≡ Some (Rules b)) where
    abbrev seen : List (List Value)
    seen = inputs core s n (Rules b)

    fired_pending : (f : Option Firing) → fire core b (part_of s n).order (map oldest seen) ≡ f → (outs : List (Option Value))
        → (fired b (part_of s n) seen f).part.pending ≡ Some outs → Holds b outs
    fired_pending None fires outs h = before n b outs is_box h
    fired_pending (Some firing) fires outs h = let same : firing.outs ≡ outs = cc in subst (Holds b) same (firings n b is_box firing fires)

    chosen_pending : (busy : Bool) (outs : List (Option Value))
        → (if busy then idle (part_of s n) seen else fired b (part_of s n) seen (fire core b (part_of s n).order (map oldest seen))).part.pending ≡ Some outs → Holds b outs
    chosen_pending true outs h = before n b outs is_box h
    chosen_pending false outs h = fired_pending (fire core b (part_of s n).order (map oldest seen)) refl outs h

  pub mid_pending : FiringsAre core s Holds → PendingAre core (mid core s) Holds
  mid_pending firings n b outs is_box h =
      let e = ap (λ (p : Part). p.pending) (mid_part core s n (Rules b) is_box) ∙ ap (λ o. (executed_at core s n o).part.pending) is_box in
      chosen_pending firings n b is_box (is_some (part_of s n).pending) outs (sym e ∙ h)

  kept_when : (room : Bool) (before next : Part) (values outs : List (Option Value)) (wires : List (List Value)) → next.pending ≡ None
      → (if room then (let half : HalfStep = record { part = next; side = with_asserted values wires } in half) else idle before wires).part.pending ≡ Some outs → before.pending ≡ Some outs
  kept_when true before next values outs wires none h = absurd (let f = sym none ∙ h in cc)
  kept_when false before next values outs wires none h = h

  kept_pending : (part : Part) (rooms : List Bool) (wires : List (List Value)) (outs : List (Option Value)) (p : Option (List (Option Value))) → part.pending ≡ p
      → (assert_pending part rooms wires p).part.pending ≡ Some outs → part.pending ≡ Some outs
  kept_pending part rooms wires outs None is h = h
  kept_pending part rooms wires outs (Some values) is h = kept_when (have_room values rooms) part (record part { pending = None }) values outs wires refl h

  pub up_pending : PendingAre core (up core s) Holds
  up_pending n b outs is_box h =
      let e = ap (λ (p : Part). p.pending) (up_part core s n (Rules b) is_box) ∙ ap (λ o. (stepped_at core s n o).part.pending) is_box in
      before n b outs is_box (kept_pending (part_of s n) (rooms core s n (Rules b)) (outputs core s n (Rules b)) outs (part_of s n).pending refl (sym e ∙ h))
